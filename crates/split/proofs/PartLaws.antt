-- Laws of splitting that rest on how many parts there are: that they are no more than sixteen, that they join to the packet, that each begins
-- within it, and how long their user data is. Each is said once for both widths and both kinds.
use Rattle.std.specs.Prelude.{ℕ, zero, suc, ◌+◌, ◌-◌, ◌*◌, ◌≤◌, ◌<◌, ◌≡◌, refl, List, eqb, leb}
use Rattle.std.proofs.Common.{◌∙◌, arith, mul-le-mul_right, length-take, take_all, leb-true, leb-false, ne_eqb}
use Rattle.std.proofs.Math.Nat.{suc-sub-suc}
use Rattle.std.proofs.Math.ListN.{length, length-append, length-drop}
use Rattle.std.proofs.lemmas.Bool.{lt-leb}
use Rattle.octets.specs.Joined.{joined, joined_cut}
use Rattle.octets.specs.Tests.{by_test}
use Rattle.types.specs.declared.Kind.{Kind}
use Rattle.arrival.specs.Message.{most_user_data, most_parts}
use Rattle.arrival.specs.Keys.{room}
use Rattle.split.specs.Splitting.{most_single, parts, part_from, part_octets, header_of, user_data, most_split}
use Rattle.split.specs.Laws.{one_part, next_part, part_whole, part_cut, part_room, single_header, header_room}

-- one message, or several
pub by_size : {P : Type 0} (size : ℕ) → (size ≤ most_single → P) → (most_single < size → P) → P
by_size size f g = by_test (leb size most_single) (λ e. f (leb-true size most_single e)) (λ e. g (leb-false size most_single e))

-- ---- how many parts
-- Beyond, with room for `first` octets in part 1 and `later` in each part behind it: there are two parts or more, the last begins before the
-- octets end, they end within it, and what sixteen parts hold is no more than sixteen.
pub record Spans (first later size total : ℕ) : Type 0 where
  pub several : 2 ≤ total
  pub begins : first + (total - 2) * later < size
  pub ends : size ≤ first + (total - 1) * later
  pub sixteen : size ≤ first + (most_parts - 1) * later → total ≤ most_parts

pub spans : (width size : ℕ) → most_single < size → Spans (room width 1) (room width 2) size (parts width size)
spans width size l =
    by_test (eqb width 16)
    (λ e. rw (lt-leb size most_single l, e) (record { several = omega arith; begins = omega arith; ends = omega arith; sixteen = λ m. omega arith }))
    (λ e. rw (lt-leb size most_single l, e) (record { several = omega arith; begins = omega arith; ends = omega arith; sixteen = λ m. omega arith }))

-- one part or more, one only up to 137 octets, and sixteen at most of a packet that is not refused 12
module _ (width size : ℕ) where
  pub some_part : 1 ≤ parts width size
  some_part = by_size size (λ l. rw (one_part width size l) (omega arith)) (λ l. omega (arith, (spans width size l).several))

  pub single_size : parts width size ≡ 1 → size ≤ most_single
  single_size e = by_size size (λ l. l) (λ l. absurd (omega (arith, (spans width size l).several)))

  pub most_parts_lem : size ≤ most_split width → parts width size ≤ most_parts
  most_parts_lem m = by_size size (λ l. rw (one_part width size l) (omega arith)) (λ l. (spans width size l).sixteen m)

-- ---- the parts join to the packet
joined_one : (f : ℕ → List ℕ) → joined f 1 ≡ f 1
unfolding joined
joined_one f = refl

pub parts_join : (width : ℕ) (p : List ℕ) → joined (part_octets width p) (parts width (length p)) ≡ p
parts_join width p =
    by_size (length p)
    (λ l. rw (one_part width (length p) l) (joined_one (part_octets width p) ∙ part_whole width p 1 l))
    (λ l.
    let s = spans width (length p) l in
    let t = parts width (length p) in
    let all : length p ≤ part_from width (suc t) = rw (ne_eqb (suc t) 1 (omega arith), suc-sub-suc t 1) s.ends in
    joined_cut p (part_octets width p) (λ i. part_from width (suc i)) (λ i. room width (suc i)) refl (next_part width) t (λ i m. part_cut width p (suc i) l)
    ∙ take_all (part_from width (suc t)) p all)

-- ---- how long the parts are
-- every part of the packet begins within it
pub part_begins : (width size number : ℕ) → 1 ≤ size → 1 ≤ number → number ≤ parts width size → part_from width number < size
part_begins width size zero o l m = absurd (omega arith)
part_begins width size (suc zero) o l m = o
part_begins width size (suc (suc i)) o l m =
    by_size size (λ s. let e = one_part width size s in absurd (omega arith))
    (λ s.
    let h = spans width size s in
    let a : (suc (suc i) - 2) * room width 2 ≤ (parts width size - 2) * room width 2 = mul-le-mul_right (room width 2) (omega arith) in
    rw (ne_eqb (suc (suc i)) 1 (omega arith)) (omega (arith, h.begins)))

-- "Every part but the last is full."
pub part_full : (width : ℕ) (p : List ℕ) (number : ℕ) → most_single < length p → 1 ≤ number → number < parts width (length p)
    → length (part_octets width p number) ≡ room width number
part_full width p zero s o l = absurd (omega arith)
part_full width p (suc i) s o l =
    let b = part_begins width (length p) (suc (suc i)) (omega arith) (omega arith) (omega arith) in
    let n = next_part width i in
    rw (part_cut width p (suc i) s) (simp (length-take, length-drop) (omega arith))

-- "User data: 0 to 140 octets", and every part but the last is all of them.
module _ (k : Kind) (width reference : ℕ) (p : List ℕ) (number : ℕ) where
  user_data_length : length (user_data k width reference p number)
      ≡ length (header_of k width reference (parts width (length p)) number) + length (part_octets width p number)
  unfolding user_data
  user_data_length = length-append (header_of k width reference (parts width (length p)) number) (part_octets width p number)

  pub user_data_fits : length (user_data k width reference p number) ≤ most_user_data
  user_data_fits =
      by_size (length p)
      (λ l. rw (user_data_length, part_whole width p number l, one_part width (length p) l) (omega (arith, single_header k width reference number)))
      (λ l.
      let h = header_room k width reference (parts width (length p)) number (λ e. omega (arith, (spans width (length p) l).several)) in
      rw user_data_length (omega (arith, part_room width p number l)))

  pub user_data_full : 1 ≤ number → number < parts width (length p) → length (user_data k width reference p number) ≡ most_user_data
  user_data_full o m =
      let l : most_single < length p = by_size (length p) (λ l. let e = one_part width (length p) l in absurd (omega arith)) (λ l. l) in
      rw (user_data_length, part_full width p number l o m) (header_room k width reference (parts width (length p)) number (λ e. omega arith))
