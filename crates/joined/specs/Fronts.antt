-- The packet in joined octets (01, "Numbers", "Series"), and of such octets their count and the first three, which is all that tells whether
-- a packet is in them.
use Rattle.std.specs.declared.option.Option as option
use Rattle.std.specs.declared.option.Option.TheVariants.{Some, None}
use Rattle.std.specs.Prelude.{ℕ, ◌+◌, ◌-◌, ◌*◌, min, Bool, true, false, not, cond, ◌&&◌, ◌||◌, List, ◌++◌, length, get_or, take, drop, ltb, leb}
use Rattle.std.proofs.Math.Option.{Option, none, some}
use Rattle.octets.specs.Octets.{number_of}
use Rattle.types.specs.declared.Kind.{Kind}
use Rattle.packet.specs.Packets.{cpl, formed_by, well_formed}
use Rattle.arrival.specs.Page.{page_content}
use Rattle.joined.specs.declared.Front.{Front}

-- ---- the packet in joined octets
-- "A packet in t pages has 82(t − 1) + 1 to 82t octets; what follows it in the last page is filler and is not handed out."
abbrev pub pages_allow : ℕ → ℕ → Bool
pages_allow t size = leb (page_content * (t - 1) + 1) size && leb size (page_content * t)

abbrev pub packet_octets : Bool → List ℕ → List ℕ
packet_octets false o = o
packet_octets true o = take (cpl o + 2) o

-- "If the joined octets in number order are well formed (for pages the first CPL + 2 of them, a length the pages allow)"
unfoldable pub packet_in : Kind → Bool → ℕ → List ℕ → Option (List ℕ)
packet_in k paged t o =
    cond (well_formed k (packet_octets paged o) && (not paged || pages_allow t (cpl o + 2))) (some (packet_octets paged o)) none

-- ---- the front of joined octets
abbrev pub front_of : List ℕ → Front
front_of o = record { count = length o; high = get_or o 0 0; low = get_or o 1 0; header = get_or o 2 0 }

-- octet i, where it is b if it lies in the first n octets, and p follows these
abbrev pub octet_after : ℕ → ℕ → ℕ → List ℕ → ℕ
octet_after i n b p = cond (ltb i n) b (get_or p (i - n) 0)

-- the front, with p behind what it is the front of
abbrev pub front_after : Front → List ℕ → Front
front_after f p =
    record {
      count = f.count + length p;
      high = octet_after 0 f.count f.high p;
      low = octet_after 1 f.count f.low p;
      header = octet_after 2 f.count f.header p;
    }

-- What extending a front comes to, whatever it counts. Past the longest packet that a CPL can state, 65,537 octets, a front stays as it is:
-- how many more follow tells nothing of a packet.
abbrev pub most_counted : ℕ
most_counted = 65537

abbrev pub extended : Front → List ℕ → Front
extended f p = cond (ltb most_counted f.count) f (front_after f p)

-- ---- the packet in joined octets, by their front
-- how many of them count: all; in pages CPL + 2, or all where there are fewer
abbrev pub size_in : Bool → Front → ℕ
size_in false f = f.count
size_in true f = min (number_of f.high f.low + 2) f.count

abbrev pub holds_packet : Kind → Bool → ℕ → Front → Bool
holds_packet k paged t f =
    formed_by k (size_in paged f) f.high f.low f.header && (not paged || pages_allow t (size_in paged f))

unfoldable pub size_by : Kind → Bool → ℕ → Front → Option ℕ
size_by k paged t f = cond (holds_packet k paged t f) (some (size_in paged f)) none

abbrev pub told_size : option.Option ℕ → Option ℕ
told_size (Some n) = some n
told_size None = none

-- ---- handing out
-- the packet's length, and the output with the packet at its start
abbrev pub length_in : Option (List ℕ) → Option ℕ
length_in none = none
length_in (some p) = some (length p)

abbrev pub output_with : Option (List ℕ) → List ℕ → List ℕ
output_with none output = output
output_with (some p) output = p ++ drop (length p) output

-- the packet of octets in one place, for a buffer of `size` octets: none where the buffer has not as many
abbrev pub packet_for : Kind → Bool → List ℕ → ℕ → Option (List ℕ)
packet_for k paged o size = cond (ltb size (length o)) none (packet_in k paged 1 o)
