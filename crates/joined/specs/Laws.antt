-- Laws of the front of joined octets: it grows part by part, and it tells what packet is in them.
use Rattle.std.specs.declared.option.Option as option
use Rattle.std.specs.declared.option.Option.TheVariants.{Some, None}
use Prim.Native.Nat.{ℕ, ◌+◌, ◌-◌, ◌≤◌, min}
use Rattle.std.proofs.Math.Path.{◌≡◌}
use Rattle.std.specs.Prelude.{refl, Bool, not, ◌&&◌, ◌||◌, List, ◌++◌, take, drop, get_or, eqb, ltb, leb}
use Rattle.std.proofs.Common.{sym, ap, ◌∙◌, arith, length-append, length-take, length-take-le, take_all, get_or-append-add, get_or-take, eqb-true, ltb-true, ltb-false, leb-true, leb-false, le-ltb}
use Rattle.std.proofs.Math.Bool.{true, false, cond, and-false}
use Rattle.std.proofs.Math.Option.{Option, none, some}
use Rattle.std.proofs.Math.ListN.{length, get_or-append}
use Rattle.std.proofs.Math.Seq.{take-length}
use Rattle.std.proofs.lemmas.Bool.{eqb-false, lt-leb}
use Rattle.octets.specs.Octets.{number_of}
use Rattle.types.specs.declared.Kind.{Kind}
use Rattle.packet.specs.Packets.{cpl, formed_by, well_formed}
use Rattle.joined.specs.declared.Front.{Front}
use Rattle.joined.specs.Fronts.{pages_allow, packet_octets, packet_in, front_of, octet_after, front_after, most_counted, extended, size_in, holds_packet, size_by, told_size, length_in, output_with, packet_for}

-- ---- more octets
-- an octet lies in the first run or in the second
octet_more : (i : ℕ) (o p : List ℕ) → octet_after i (length o) (get_or o i 0) p ≡ get_or (o ++ p) i 0
octet_more i o p = go (ltb i (length o)) refl
  where
    go : (b : Bool) → ltb i (length o) ≡ b → cond b (get_or o i 0) (get_or p (i - length o) 0) ≡ get_or (o ++ p) i 0
    go true e = sym (get_or-append o p 0 i (ltb-true i (length o) e))
    go false e =
        let l : length o ≤ i = ltb-false i (length o) e in
        let m : i ≡ length o + (i - length o) = omega arith in
        sym (ap (λ (n : ℕ). get_or (o ++ p) n 0) m ∙ get_or-append-add o p (i - length o) 0)

pub front_more : (o p : List ℕ) → front_after (front_of o) p ≡ front_of (o ++ p)
front_more o p =
    λ i. record {
      count = sym (length-append o p) i;
      high = octet_more 0 o p i;
      low = octet_more 1 o p i;
      header = octet_more 2 o p i;
    }

-- the front of no more octets than that grows by what follows
pub extended_more : (f : Front) (p : List ℕ) → f.count ≤ most_counted → extended f p ≡ front_after f p
extended_more f p l = rw (le-ltb most_counted f.count l)

-- ---- the packet
pub size_inside : (paged : Bool) (f : Front) → size_in paged f ≤ f.count
size_inside false f = omega arith
size_inside true f = omega arith

-- in pages: the first CPL + 2 octets, or all where there are fewer
take_min : (n : ℕ) (o : List ℕ) → take (min n (length o)) o ≡ take n o
take_min n o = go (leb n (length o)) refl
  where
    go : (b : Bool) → leb n (length o) ≡ b → take (min n (length o)) o ≡ take n o
    go true e = let m : min n (length o) ≡ n = omega (arith, leb-true n (length o) e) in rw m
    go false e =
        let l = leb-false n (length o) e in
        let m : min n (length o) ≡ length o = omega arith in rw (m, take-length o, take_all n o (omega arith))

pub packet_octets_lem : (paged : Bool) (o : List ℕ) → packet_octets paged o ≡ take (size_in paged (front_of o)) o
packet_octets_lem false o = sym (take-length o)
packet_octets_lem true o = sym (take_min (cpl o + 2) o)

-- a packet whose CPL is 0 has no room for a header, whatever its header length
no_header : (k : Kind) (size high low header : ℕ) → number_of high low ≡ 0 → formed_by k size high low header ≡ false
no_header k size high low header e = rw (lt-leb (header + 1) (number_of high low) (omega arith), and-false)

-- whether it is well formed is told by the front: it has the first two octets in full, and the third unless its CPL is 0
module _ (k : Kind) (o : List ℕ) where
  abbrev by : ℕ → Bool
  by header = formed_by k (size_in true (front_of o)) (get_or o 0 0) (get_or o 1 0) header

  pub formed_cut : well_formed k (packet_octets true o) ≡ by (get_or o 2 0)
  formed_cut =
      let p : List ℕ = packet_octets true o in
      let a : length p ≡ size_in true (front_of o) = length-take (cpl o + 2) o in
      let b : get_or p 0 0 ≡ get_or o 0 0 = get_or-take (cpl o + 2) o 0 0 (omega arith) in
      let c : get_or p 1 0 ≡ get_or o 1 0 = get_or-take (cpl o + 2) o 1 0 (omega arith) in
      let e : well_formed k p ≡ by (get_or p 2 0) = cc in
      e ∙ go (eqb (cpl o) 0) refl
    where
      none_by : (header : ℕ) → cpl o ≡ 0 → by header ≡ false
      none_by header e = no_header k (size_in true (front_of o)) (get_or o 0 0) (get_or o 1 0) header e

      go : (b : Bool) → eqb (cpl o) 0 ≡ b → by (get_or (packet_octets true o) 2 0) ≡ by (get_or o 2 0)
      go true e = let z = eqb-true (cpl o) 0 e in none_by (get_or (packet_octets true o) 2 0) z ∙ sym (none_by (get_or o 2 0) z)
      go false e = let z = eqb-false (cpl o) 0 e in ap by (get_or-take (cpl o + 2) o 2 0 (omega arith))

-- the first octets of o, if it is said how many
abbrev first_of : List ℕ → Option ℕ → Option (List ℕ)
first_of o none = none
first_of o (some n) = some (take n o)

module _ (k : Kind) (paged : Bool) (t : ℕ) (o : List ℕ) where
  holds : (b : Bool) → (well_formed k (packet_octets b o) && (not b || pages_allow t (cpl o + 2))) ≡ holds_packet k b t (front_of o)
  holds false = refl
  holds true = rw (formed_cut k o) (go (eqb (cpl o + 2) n) refl)
    where
      n : ℕ
      n = size_in true (front_of o)

      go : (b : Bool) → eqb (cpl o + 2) n ≡ b → (by k o (get_or o 2 0) && pages_allow t (cpl o + 2)) ≡ (by k o (get_or o 2 0) && pages_allow t n)
      go true e = ap (λ (m : ℕ). by k o (get_or o 2 0) && pages_allow t m) (eqb-true (cpl o + 2) n e)
      go false e = rw e

  -- the packet is the first octets of o, as many as the front tells
  pub packet_by : packet_in k paged t o ≡ first_of o (size_by k paged t (front_of o))
  unfolding packet_in size_by
  packet_by = rw (holds paged, packet_octets_lem paged o) (go (holds_packet k paged t (front_of o)))
    where
      n : ℕ
      n = size_in paged (front_of o)

      go : (b : Bool) → cond b (some (take n o)) none ≡ first_of o (cond b (some n) none)
      go true = refl
      go false = refl

  pub size_most : (n : ℕ) → size_by k paged t (front_of o) ≡ some n → n ≤ length o
  unfolding size_by
  size_most n = go (holds_packet k paged t (front_of o))
    where
      go : (b : Bool) → cond b (some (size_in paged (front_of o))) none ≡ some n → n ≤ length o
      go true h = let q : size_in paged (front_of o) ≡ n = cc in rw (← q) (size_inside paged (front_of o))
      go false h = let z : ◌≡◌ {A = ℕ} 0 1 = cc in absurd (omega arith)

  pub packet_start : (p : List ℕ) → packet_in k paged t o ≡ some p → p ≡ take (length p) o
  packet_start p e = go (size_by k paged t (front_of o)) refl (sym packet_by ∙ e)
    where
      go : (m : Option ℕ) → size_by k paged t (front_of o) ≡ m → first_of o m ≡ some p → p ≡ take (length p) o
      go none h f = let z : ◌≡◌ {A = ℕ} 0 1 = cc in absurd (omega arith)
      go (some n) h f = let q : take n o ≡ p = cc in rw (← q, length-take-le n o (size_most n h))

-- ---- handing out
-- what the front tells, where it is told of o
module _ (k : Kind) (paged : Bool) (t : ℕ) (o : List ℕ) (f : Front) (z : option.Option ℕ) (front : f ≡ front_of o)
    (told : told_size z ≡ size_by k paged t f) where
  size_told : told_size z ≡ size_by k paged t (front_of o)
  size_told = rw (← front) told

  -- there is none
  pub none_told : z ≡ None → none ≡ length_in (packet_in k paged t o)
  none_told e = rw (packet_by k paged t o, ← size_told, e)

  pub none_kept : (d : List ℕ) → z ≡ None → d ≡ output_with (packet_in k paged t o) d
  none_kept d e = rw (packet_by k paged t o, ← size_told, e)

  -- there is one of n octets
  module _ (n : ℕ) (e : z ≡ Some n) where
    pub packet_inside : n ≤ length o
    packet_inside = size_most k paged t o n (rw e at (sym size_told))

    pub packet_fits : (d : List ℕ) → length o ≤ length d → n ≤ length d
    packet_fits d l = omega (arith, packet_inside)

    pub packet_told : some n ≡ length_in (packet_in k paged t o)
    packet_told = rw (packet_by k paged t o, ← size_told, e, length-take-le n o packet_inside)

    pub packet_written : (d x : List ℕ) → x ≡ take n o ++ drop n d → x ≡ output_with (packet_in k paged t o) d
    packet_written d x h = rw (packet_by k paged t o, ← size_told, e, length-take-le n o packet_inside) h

-- a buffer with room for all of the octets
pub packet_for_lem : (k : Kind) (paged : Bool) (o : List ℕ) (size : ℕ) → length o ≤ size → packet_for k paged o size ≡ packet_in k paged 1 o
packet_for_lem k paged o size l = rw (le-ltb size (length o) l)
