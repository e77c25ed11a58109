-- What the proofs of `checksum` cite: one law for each return or call, over plain variables.
use Prim.Native.Nat.{ℕ, ◌+◌, ◌-◌, ◌≤◌, ◌<◌}
use mathlib.Core.Path.{◌≡◌, sym, ap, ◌∙◌}
use mathlib.Core.Bool.{Bool, true, false, not}
use mathlib.Core.List.{List, [], ◌∷◌, ◌++◌, append_assoc}
use native.Mathlib.Omega.{arith}
use lib.ListN.{length, take, drop, length-append, length-drop}
use lib.Seq.{length-take-le, take_all}
use borrow.Author.Rules.{rules}
use borrow.Author.Tests.{eq-eqb, ne_eqb, not-true, not-false, lt-ltb, le-ltb}
use Rattle.octets.specs.Octets.{placed, after_put}
use Rattle.octets.specs.Laws.{put_fits, placed_start, placed_behind}
use Rattle.types.specs.declared.Kind.{Kind}
use Rattle.types.specs.declared.Kind.TheVariants.{Command, Response}
use Rattle.types.specs.Refusals.{refused, gives, Lent, lent, writes}
use Rattle.packet.specs.Packets.{least, chl, well_formed, within, fields_behind, against_check, fixed_octets, runs_from, summed, checksum_octets, checksummed}
use Rattle.packet.specs.Laws.{within_facts, before_least}
use Rattle.packet.proofs.PacketLaws.{formed_within}

-- ---- the fixed octets
pub fixed_command : (k : Kind) → k ≡ Command → 0 ≡ length (fixed_octets k)
fixed_command k e = rw e

pub fixed_response : (k : Kind) → k ≡ Response → 3 ≡ length (fixed_octets k)
fixed_response k e = rw e

pub none_put : (k : Kind) (d : List ℕ) → k ≡ Command → d ≡ placed d 0 (fixed_octets k)
none_put k d e = rw e (sym (placed_start d []))

pub fixed_put : (k : Kind) (d o : List ℕ) → k ≡ Response → 3 ≤ length d → o ≡ after_put d 0 (0x02 ∷ 0x71 ∷ 0x00 ∷ []) → o ≡ placed d 0 (fixed_octets k)
fixed_put k d o e l f = rw e (f ∙ put_fits d 0 (0x02 ∷ 0x71 ∷ 0x00 ∷ []) l)

-- ---- the two runs
pub run_put : (d p o : List ℕ) (at : ℕ) → at + length p ≤ length d → o ≡ after_put d at p → o ≡ placed d at p
run_put d p o at l e = e ∙ put_fits d at p l

module _ (k : Kind) (p d x : List ℕ) (start h lead l n : ℕ) (f : (least k ≤ h) × (start + h ≤ length p)) (s : (length p ≤ 2142) × (length d ≡ 2145))
    (a : ((lead ≡ length (fixed_octets k)) × (lead ≤ 3)) × (x ≡ placed d 0 (fixed_octets k))) (c : l ≡ least k) (e : n ≡ start + l) where
  front_length : length (take n p) ≡ start + least k
  front_length = length-take-le n p (omega arith) ∙ omega arith

  pub front_fits : (q : List ℕ) → q ≡ take n p → length x ≡ length d → lead + length q ≤ length x
  front_fits q g i = omega (arith, ap length g, front_length)

  -- the octets from a place to the end, as the code takes them
  abbrev tail : List ℕ
  tail = take (length p - (start + h)) (drop (start + h) p)

  tail_is : tail ≡ drop (start + h) p
  tail_is = take_all (length p - (start + h)) (drop (start + h) p) (simp length-drop (omega arith))

  module _ (q y : List ℕ) (g : q ≡ take n p) (t : ℕ) (b : (t ≡ lead + length q) × (y ≡ placed x lead q)) where
    pub data_fits : length y ≡ length d → t + length tail ≤ length y
    data_fits i = rw (tail_is, length-drop) (omega (arith, ap length g, front_length))

    pub all_collected : (z : List ℕ) (r : ℕ) → (r ≡ t + length tail) × (z ≡ placed y t tail)
        → lent (gives r) z ≡ writes (gives (fixed_octets k ++ runs_from start k h p)) d
    all_collected z r w =
        let i : n ≡ start + least k = omega arith in
        let j : q ≡ take (start + least k) p = rw (← i) g in
        let u : y ≡ placed d 0 (fixed_octets k ++ q) = placed_behind d (fixed_octets k) q x y lead a.1 (omega arith) b.1 in
        let v : z ≡ placed d 0 ((fixed_octets k ++ q) ++ drop (start + h) p) =
        placed_behind d (fixed_octets k ++ q) (drop (start + h) p) y z t u (rw length-append (omega arith)) (rw tail_is at w.1) in
        let o : z ≡ placed d 0 (fixed_octets k ++ runs_from start k h p) = rw (append_assoc, j) at v in
        let size : r ≡ t + (length p - (start + h)) = rw (tail_is, length-drop) at w.0 in
        let c : r ≡ length (fixed_octets k ++ runs_from start k h p) = simp (length-append, length-drop) (omega (arith, ap length j)) in
        rw (o, c, placed_start d (fixed_octets k ++ runs_from start k h p))

-- ---- the answer
module _ (k : Kind) (c : Bool) (start h : ℕ) (p d : List ℕ) where
  pub sum_buffer : (length d ≡ 2145 → ⊥) → lent (refused 1) d ≡ summed k c start h p d
  unfolding summed
  sum_buffer n = rw (ne_eqb (length d) 2145 n)

  module _ (l : length d ≡ 2145) (o : List ℕ) (i : o ≡ drop start p) (w : Bool) (e : w ≡ within k h o) where
    pub sum_outside : not w ≡ true → lent (refused 9) d ≡ summed k c start h p d
    unfolding summed
    sum_outside t = rw (eq-eqb (length d) 2145 l, ← i, ← e, not-true w t)

    module _ (t : not w ≡ false) where
      -- the header ends within the packet
      pub sum_room : least k ≤ h
      sum_room = (within_facts k h o (sym e ∙ not-false w t)).room

      pub sum_inside : start + h ≤ length p
      sum_inside =
          let f = within_facts k h o (sym e ∙ not-false w t) in
          let m : length o ≡ length p - start = ap length i ∙ length-drop start p in omega (arith, before_least k)

      pub sum_long : 2142 < length p → lent (refused 12) d ≡ summed k c start h p d
      unfolding summed
      sum_long m = rw (eq-eqb (length d) 2145 l, ← i, ← e, not-false w t, lt-ltb 2142 (length p) m)

      module _ (m : length p ≤ 2142) (a : Bool) (b : a ≡ against_check k (fields_behind k c h o)) where
        pub sum_mismatch : a ≡ true → lent (refused 15) d ≡ summed k c start h p d
        unfolding summed
        sum_mismatch s = rw (eq-eqb (length d) 2145 l, ← i, ← e, not-false w t, le-ltb 2142 (length p) m, ← b, s)

        module _ (s : a ≡ false) where
          pub sum_ciphered : c ≡ true → lent (refused 10) d ≡ summed k c start h p d
          unfolding summed
          sum_ciphered u = rw (eq-eqb (length d) 2145 l, ← i, ← e, not-false w t, le-ltb 2142 (length p) m, ← b, s) (rw u)

          pub sum_collected : c ≡ false → (x : Lent) → x ≡ writes (gives (fixed_octets k ++ runs_from start k h p)) d → x ≡ summed k c start h p d
          unfolding summed
          sum_collected u x g = rw (eq-eqb (length d) 2145 l, ← i, ← e, not-false w t, le-ltb 2142 (length p) m, ← b, s) (g ∙ rw u)

-- ---- packets of 01: the octets behind the lengths begin at 3
module _ (k : Kind) (c : Bool) (p d : List ℕ) where
  pub packet_buffer : (length d ≡ 2145 → ⊥) → lent (refused 1) d ≡ checksummed k c p d
  unfolding checksummed
  packet_buffer n = rw (ne_eqb (length d) 2145 n)

  module _ (w : Bool) (e : w ≡ well_formed k p) where
    pub packet_unformed : length d ≡ 2145 → not w ≡ true → lent (refused 9) d ≡ checksummed k c p d
    unfolding checksummed checksum_octets
    packet_unformed l t = rw (eq-eqb (length d) 2145 l, ← e, not-true w t)

    pub packet_summed : not w ≡ false → (n m : ℕ) → n ≡ chl p → m ≡ n → (x : Lent) → x ≡ summed k c 3 m p d → x ≡ checksummed k c p d
    unfolding summed checksummed checksum_octets
    packet_summed t n m f g x i =
        let z : m ≡ chl p = g ∙ f in
        let u : well_formed k p ≡ true = sym e ∙ not-false w t in i ∙ rw (z, formed_within k p u, u)

pub ruleset steps = (
  rules,
  before_least,
  fixed_command,
  fixed_response,
  none_put,
  fixed_put,
  run_put,
  front_fits,
  data_fits,
  all_collected,
  sum_buffer,
  sum_outside,
  sum_room,
  sum_inside,
  sum_long,
  sum_mismatch,
  sum_ciphered,
  sum_collected,
  packet_buffer,
  packet_unformed,
  packet_summed,
)
