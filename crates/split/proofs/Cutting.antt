-- Laws that the proofs about a part's octets cite: where it begins, what is cut out, what is filled, and what stands in the buffer at the end.
use Prim.Native.Nat.{ℕ, ◌+◌, ◌-◌, ◌*◌, ◌≤◌, ◌<◌}
use mathlib.Core.Path.{◌≡◌, sym, ap, ◌∙◌}
use mathlib.Core.List.{List, ◌++◌, append-nil}
use native.Mathlib.Omega.{arith}
use native.Mathlib.Nat.{add-sub_cancel_left, mul-le-mul, zero-add}
use lib.ListN.{length, take, drop, replicate, length-append, length-drop, drop_of_length-le}
use lib.Seq.{length-take-le, take_all}
use mir.Syntax.{w64}
use mir.Val.{Fits}
use borrow.Author.Tests.{eq-eqb, ne_eqb}
use Rattle.octets.specs.Octets.{placed, after_put}
use Rattle.octets.specs.Laws.{put_fits, length_placed, placed_start, placed_next}
use Rattle.types.specs.declared.Kind.{Kind}
use Rattle.arrival.specs.Keys.{room}
use Rattle.split.specs.Splitting.{part_from, part_octets, header_of, user_data}
use Rattle.split.specs.Laws.{part_whole, part_cut}
use Rattle.split.proofs.PartLaws.{part_begins, user_data_fits}
use Rattle.split.specs.Within.{HeaderPut, Writable, Standing}

-- ---- where a part begins
pub from_one : (width number : ℕ) → number ≡ 1 → 0 ≡ part_from width number
from_one width number e = rw (eq-eqb number 1 e)

module _ (width number first later : ℕ) (m : later ≤ 134) (l : number ≤ 16) where
  product : (number - 2) * later ≤ 14 * 134
  product = mul-le-mul {n₁ = number - 2} {m₁ = later} {n₂ = 14} {m₂ = 134} (omega arith) m

  pub product_fits : Fits w64 ((number - 2) * later)
  product_fits = omega (arith, product)

  pub from_fits : first ≤ 134 → Fits w64 (first + (number - 2) * later)
  from_fits f = omega (arith, product)

pub from_later : (width number first later : ℕ) → (number ≡ 1 → ⊥) → first ≡ room width 1 → later ≡ room width 2
    → first + (number - 2) * later ≡ part_from width number
from_later width number first later n e f = rw (ne_eqb number 1 n, e, f)

-- ---- what is cut out
module _ (p : List ℕ) (from space : ℕ) where
  pub cut_rest : length p - from ≤ space → take (length p - from) (drop from p) ≡ take space (drop from p)
  cut_rest l =
      let e = length-drop from p in
      rw (take_all (length p - from) (drop from p) (omega arith)) (sym (take_all space (drop from p) (omega arith)))

  pub cut_full : take (from + space - from) (drop from p) ≡ take space (drop from p)
  cut_full = rw (add-sub_cancel_left from space)

module _ (width : ℕ) (p : List ℕ) (number : ℕ) where
  pub whole_octets : length p ≤ 137 → p ≡ part_octets width p number
  whole_octets l = sym (part_whole width p number l)

  pub cut_octets : (o : List ℕ) (from space : ℕ) → 137 < length p → from ≡ part_from width number → space ≡ room width number
      → o ≡ take space (drop from p) → o ≡ part_octets width p number
  cut_octets o from space l e f g = rw (part_cut width p number l, ← e, ← f) g

-- ---- what is filled
pub fill_stands : (d ys : List ℕ) (at : ℕ) → at ≤ length d → ys ≡ replicate (length (take (length d - at) (drop at d))) 0
    → take at d ++ (ys ++ drop (length d - at) (drop at d)) ≡ take at d ++ replicate (length d - at) 0
fill_stands d ys at l e =
    let f = length-drop at d in
    rw (e, length-take-le (length d - at) (drop at d) (omega arith), drop_of_length-le (drop at d) {i = length d - at} (omega arith), append-nil)

-- ---- what stands at the end
-- a header of `at` octets was put, and then the octets behind it
pub two_put : (h own d d₁ d₂ : List ℕ) (at : ℕ) → HeaderPut h at d d₁ → at + length own ≤ length d → d₂ ≡ after_put d₁ at own
    → Standing (h ++ own) (at + length own) d d₂
two_put h own d d₁ d₂ at p l g =
    let a = p.long in
    let b = length_placed d 0 h (omega arith) in
    let stands : d₂ ≡ placed d 0 (h ++ own) =
    g ∙ rw (p.stands, p.long, put_fits (placed d 0 h) (length h) own (omega arith), ← zero-add (length h)) (placed_next d 0 h own (omega arith)) in
    record { long = simp length-append (omega arith); stands = stands ∙ placed_start d (h ++ own) }

module _ (k : Kind) (width reference : ℕ) (p : List ℕ) (total number size : ℕ) (r : Writable width reference p total number size) where
  pub ready_begins : part_from width number ≤ length p
  ready_begins =
      let a = r.all in
      let b = part_begins width (length p) number r.some r.numbered.first (omega (arith, r.numbered.last)) in omega arith

  module _ (at : ℕ) (own d d₁ : List ℕ) (h : HeaderPut (header_of k width reference total number) at d d₁) (o : own ≡ part_octets width p number) where
    is_user_data : header_of k width reference total number ++ own ≡ user_data k width reference p number
    unfolding user_data
    is_user_data = rw (o, r.all)

    short : at + length own ≤ 140
    short =
        let f = user_data_fits k width reference p number in
        let e : length (header_of k width reference total number ++ own) ≡ length (user_data k width reference p number) = ap length is_user_data in
        let g = length-append (header_of k width reference total number) own in omega (arith, h.long)

    pub user_data_fit : Fits w64 (at + length own)
    user_data_fit = omega (arith, short)

    pub user_data_stands : (d₂ : List ℕ) → length d ≡ size → d₂ ≡ after_put d₁ at own
        → Standing (user_data k width reference p number) (at + length own) d d₂
    user_data_stands d₂ l g =
        rw (← is_user_data) (two_put (header_of k width reference total number) own d d₁ d₂ at h (omega (arith, short, r.numbered.lent)) g)
