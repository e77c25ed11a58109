-- What the proofs of `joined` search: one law for each return, over plain variables.
use Rattle.std.specs.declared.option.Option as option
use Rattle.std.specs.declared.option.Option.TheVariants.{Some, None}
use Prim.Native.Nat.{ℕ, zero, suc, ◌+◌, ◌-◌, ◌*◌, ◌≤◌, ◌<◌}
use mathlib.Core.Path.{◌≡◌, refl, sym}
use mathlib.Core.Bool.{Bool, true, false, not, ◌&&◌, ◌||◌, and-false}
use mathlib.Core.List.{List, [], ◌++◌}
use mathlib.Core.Option.{none, some}
use native.Mathlib.Omega.{arith}
use lib.ListN.{length, get_or, take, drop, get_or-eq_default}
use lib.Seq.{length-take-le}
use lib.Dec.{leb}
use borrow.Author.Rules.{rules}
use borrow.Author.Tests.{lt-ltb, le-ltb, lt-leb, not-true, not-false}
use Rattle.octets.specs.Octets.{number_of, after_put}
use Rattle.octets.specs.Laws.{put_fits, placed_start}
use Rattle.types.specs.declared.Kind.{Kind}
use Rattle.packet.specs.Packets.{formed_by}
use Rattle.arrival.specs.Page.{page_content}
use Rattle.joined.specs.declared.Front.{Front}
use Rattle.joined.specs.Fronts.{pages_allow, front_of, octet_after, most_counted, extended, size_in, holds_packet, size_by, told_size, length_in, output_with, packet_for}
use Rattle.joined.specs.Laws.{front_more, packet_for_lem, none_told, none_kept, packet_inside, packet_fits, packet_told, packet_written}

-- ---- the front
module _ (i n held : ℕ) (p : List ℕ) where
  pub octet_held : i < n → held ≡ octet_after i n held p
  octet_held l = rw (lt-ltb i n l)

  pub octet_new : n ≤ i → get_or p (i - n) 0 ≡ octet_after i n held p
  octet_new l = rw (le-ltb i n l)

  pub octet_none : n ≤ i → length p ≤ i - n → 0 ≡ octet_after i n held p
  octet_none l m = rw (le-ltb i n l) (sym (get_or-eq_default p 0 m))

module _ (f : Front) (p : List ℕ) where
  pub front_past : most_counted < f.count → f ≡ extended f p
  front_past l = rw (lt-ltb most_counted f.count l)

  -- f counts no more than that
  module _ (few : f.count ≤ most_counted) where
    pub front_seen : 3 ≤ f.count
        → record { count = f.count + length p; high = f.high; low = f.low; header = f.header } ≡ extended f p
    front_seen l =
        rw (le-ltb most_counted f.count few, lt-ltb 0 f.count (omega arith), lt-ltb 1 f.count (omega arith), lt-ltb 2 f.count (omega arith))

    pub front_octets : (a b c : ℕ) → a ≡ octet_after 0 f.count f.high p → b ≡ octet_after 1 f.count f.low p
        → c ≡ octet_after 2 f.count f.header p → record { count = f.count + length p; high = a; low = b; header = c } ≡ extended f p
    front_octets a b c x y z = rw (le-ltb most_counted f.count few, x, y, z)

  pub front_first : (r : Front) → f ≡ front_of [] → r ≡ extended f p → r ≡ front_of p
  front_first r e h = rw (h, e) (front_more [] p)

-- ---- the packet's length
module _ (paged : Bool) (f : Front) where
  pub size_all : not paged ≡ true → f.count ≡ size_in paged f
  size_all e = rw (not-true paged e)

  module _ (n : ℕ) (e : not paged ≡ false) (is : n ≡ number_of f.high f.low) where
    pub size_stated : n + 2 ≤ f.count → n + 2 ≡ size_in paged f
    size_stated l = rw (not-false paged e) (omega arith)

    pub size_fewer : f.count < n + 2 → f.count ≡ size_in paged f
    size_fewer l = rw (not-false paged e) (omega arith)

  module _ (k : Kind) (t size : ℕ) (a b : Bool) (counts : size ≡ size_in paged f)
      (formed : a ≡ formed_by k size f.high f.low f.header) (allowed : b ≡ pages_allow t size) where
    tested : (a && (not paged || b)) ≡ holds_packet k paged t f
    tested = rw (formed, allowed, counts)

    pub packet_there : (a && (not paged || b)) ≡ true → some size ≡ size_by k paged t f
    unfolding size_by
    packet_there h = rw (← tested, h, counts)

    pub packet_none : (a && (not paged || b)) ≡ false → none ≡ size_by k paged t f
    unfolding size_by
    packet_none h = rw (← tested, h)

-- no packet takes no page
pub none_allowed : (t size : ℕ) → t ≡ 0 → false ≡ pages_allow t size
none_allowed t size e = rw e (go size)
  where
    go : (n : ℕ) → false ≡ pages_allow 0 n
    go zero = refl
    go (suc n) = let e : leb (suc n) (page_content * 0) ≡ false = lt-leb (suc n) (page_content * 0) (omega arith) in rw (e, and-false)

pub pages_allowed : (t n size : ℕ) → n ≡ t → (leb (page_content * (n - 1) + 1) size && leb size (page_content * n)) ≡ pages_allow t size
pages_allowed t n size e = rw e

-- ---- handing out
pub copied_front : (p q d e : List ℕ) (limit : ℕ) → q ≡ take limit p → (limit ≤ length p) × (limit ≤ length d) → e ≡ after_put d 0 q
    → e ≡ take limit p ++ drop limit d
copied_front p q d e limit is (l, m) h =
    let n : length (take limit p) ≡ limit = length-take-le limit p l in
    rw (h, is, put_fits d 0 (take limit p) (omega arith), placed_start d (take limit p), n)

module _ (k : Kind) (paged : Bool) (o d : List ℕ) where
  pub none_fits : length d < length o → none ≡ length_in (packet_for k paged o (length d))
  none_fits l = rw (lt-ltb (length d) (length o) l)

  pub none_fits_kept : length d < length o → d ≡ output_with (packet_for k paged o (length d)) d
  none_fits_kept l = rw (lt-ltb (length d) (length o) l)

  module _ (f : Front) (z : option.Option ℕ) (fits : length o ≤ length d) (front : f ≡ front_of o) (told : told_size z ≡ size_by k paged 1 f) where
    pub single_none : z ≡ None → none ≡ length_in (packet_for k paged o (length d))
    single_none e = rw (packet_for_lem k paged o (length d) fits) (none_told k paged 1 o f z front told e)

    pub single_kept : z ≡ None → d ≡ output_with (packet_for k paged o (length d)) d
    single_kept e = rw (packet_for_lem k paged o (length d) fits) (none_kept k paged 1 o f z front told d e)

    module _ (n : ℕ) (e : z ≡ Some n) where
      pub single_told : some n ≡ length_in (packet_for k paged o (length d))
      single_told = rw (packet_for_lem k paged o (length d) fits) (packet_told k paged 1 o f z front told n e)

      pub single_written : (x : List ℕ) → x ≡ take n o ++ drop n d → x ≡ output_with (packet_for k paged o (length d)) d
      single_written x h = rw (packet_for_lem k paged o (length d) fits) (packet_written k paged 1 o f z front told n e d x h)

pub ruleset steps = (
  rules,
  octet_held,
  octet_new,
  octet_none,
  front_past,
  front_seen,
  front_octets,
  front_first,
  size_all,
  size_stated,
  size_fewer,
  none_allowed,
  pages_allowed,
  packet_there,
  packet_none,
  copied_front,
  none_fits,
  none_fits_kept,
  single_none,
  single_kept,
  single_told,
  single_written,
  packet_inside,
  packet_fits,
)
