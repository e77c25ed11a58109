-- What the proofs of `packets` search: one law for each return, call and turn of the loop, over plain variables.
use Rattle.std.specs.declared.option.Option as option
use Rattle.std.specs.declared.option.Option.TheVariants.{Some}
use Prim.Native.Nat.{ℕ, zero, suc, ◌+◌, ◌-◌, ◌≤◌, ◌<◌}
use mathlib.Core.Path.{◌≡◌, refl, sym, ap, ◌∙◌}
use mathlib.Core.Bool.{Bool}
use mathlib.Core.List.{List, ◌++◌}
use mathlib.Core.Option.{Option}
use native.Mathlib.Omega.{arith}
use native.Mathlib.Numerals.{add-one}
use lib.ListN.{length, take, drop, replicate, length-append, length-replicate}
use lib.Seq.{length-take-le, take-append_seam}
use borrow.Author.Rules.{rules}
use borrow.Author.Tests.{eq-eqb, ne_eqb}
use Rattle.octets.specs.Octets.{placed, after_put}
use Rattle.octets.specs.Laws.{length_placed, put_fits, placed_start, placed_behind}
use Rattle.octets.specs.Joined.{joined}
use Rattle.types.specs.declared.Kind.{Kind}
use Rattle.packet.specs.Packets.{most_octets}
use Rattle.joined.specs.declared.Front.{Front}
use Rattle.joined.specs.Fronts.{packet_in, front_of, size_by, told_size, length_in, output_with}
use Rattle.joined.specs.Laws.{none_told, none_kept, packet_inside, packet_told, packet_written}
use Rattle.plain.specs.Entries.{Entry, log_entry_at, entries_from}
use Rattle.plain.specs.Log.{first_entry, is_part}
use Rattle.logs.specs.Places.{found_at}
use Rattle.logs.specs.Laws.{found_some, found_none}
use Rattle.second.specs.Acting.{log_piece, whole_of}

-- ---- a part by its number
module _ (lent : List ℕ) (m slot number : ℕ) (part : List ℕ) (k : ℕ) where
  pub piece_new : k ≡ number → part ≡ log_piece (entries_from lent 0 m) slot number part k
  piece_new e = rw (eq-eqb k number e)

  module _ (i : ℕ) (x : List ℕ) (ne : k ≡ number → ⊥) (found : found_at lent m i ≡ first_entry (is_part slot k) (entries_from lent 0 (m - 0))) where
    pub piece_held : i < m → x ≡ (log_entry_at lent i).octets → x ≡ log_piece (entries_from lent 0 m) slot number part k
    piece_held l e = rw (ne_eqb k number ne, found_some (is_part slot k) lent m i found l) e

    pub piece_none : m ≤ i → x ≡ take 0 part → x ≡ log_piece (entries_from lent 0 m) slot number part k
    piece_none l e = rw (ne_eqb k number ne, found_none (is_part slot k) lent m i found l) e

pub put_placed : (d e p : List ℕ) (at : ℕ) → at + length p ≤ length d → e ≡ after_put d at p → e ≡ placed d at p
put_placed d e p at l h = h ∙ put_fits d at p l

-- ---- parts, one behind the other
joined_more : (f : ℕ → List ℕ) (k : ℕ) → joined f (k + 1) ≡ joined f k ++ f (k + 1)
unfolding joined
joined_more f k = rw add-one

joined_grows : (f : ℕ → List ℕ) (k d : ℕ) → length (joined f k) ≤ length (joined f (k + d))
joined_grows f k zero = let z : k + 0 ≡ k = omega arith in rw z (omega arith)
joined_grows f k (suc d) =
    let z : k + suc d ≡ k + d + 1 = omega arith in
    rw (z, joined_more f (k + d), length-append (joined f (k + d)) (f (k + d + 1))) (omega (arith, joined_grows f k d))

module _ (log : List Entry) (slot total number : ℕ) (part old : List ℕ) where
  abbrev piece : ℕ → List ℕ
  piece = log_piece log slot number part

  -- the first k parts stand at the start
  pub record Joins (new : List ℕ) (k at : ℕ) : Type 0 where
    pub within : k ≤ total
    pub long : length new ≡ length old
    pub size : at ≡ length (joined (log_piece log slot number part) k)
    pub is : new ≡ placed old 0 (joined (log_piece log slot number part) k)

  pub join_starts : Joins old 0 0
  unfolding joined placed
  join_starts = record { within = omega arith; long = refl; size = refl; is = refl }

  module _ (new : List ℕ) (k at : ℕ) (w : Joins new k at) where
    next : k < total → length (joined piece (k + 1)) ≤ length (joined piece total)
    next l = let z : k + 1 + (total - (k + 1)) ≡ total = omega arith in rw z at (joined_grows piece (k + 1) (total - (k + 1)))

    module _ (room : length (whole_of log slot total number part) ≤ length old) (less : k < total) (p : List ℕ) (is : p ≡ log_piece log slot number part (k + 1)) where
      longer : at + length p ≡ length (joined piece (k + 1))
      longer = rw (joined_more piece k, length-append (joined piece k) (piece (k + 1)), ← w.size, is)

      pub join_room : at + length p ≤ length new
      join_room = omega (arith, longer, next less, w.long)

      pub join_goes_on : (out : List ℕ) (to : ℕ) → (to ≡ at + length p) × (out ≡ placed new at p) → Joins out (k + 1) to
      join_goes_on out to (e, h) = record {
        within = omega arith;
        long = ap length h ∙ length_placed new at p join_room ∙ w.long;
        size = e ∙ longer;
        is = placed_behind old (joined piece k) p new out at w.is w.size h ∙ ap (placed old 0) (ap (λ (x : List ℕ). joined piece k ++ x) is ∙ sym (joined_more piece k));
      }

    end : total ≤ k → k ≡ total
    end l = omega (arith, w.within)

    pub join_size : total ≤ k → at ≡ length (whole_of log slot total number part)
    join_size l = w.size ∙ ap (λ (n : ℕ). length (joined piece n)) (end l)

    pub join_ends : total ≤ k → new ≡ placed old 0 (whole_of log slot total number part)
    join_ends l = w.is ∙ ap (λ (n : ℕ). placed old 0 (joined piece n)) (end l)

-- ---- handing out
module _ (k : Kind) (paged : Bool) (t : ℕ) (o : List ℕ) (f : Front) (z : option.Option ℕ) (front : f ≡ front_of o) (told : told_size z ≡ size_by k paged t f) (n : ℕ)
    (e : z ≡ Some n) where
  pub packet_put : (d q x : List ℕ) → length o ≤ length d → q ≡ take n o → x ≡ after_put d 0 q → x ≡ output_with (packet_in k paged t o) d
  packet_put d q x l is h =
      let i : n ≤ length o = packet_inside k paged t o f z front told n e in
      let s : length (take n o) ≡ n = length-take-le n o i in
      packet_written k paged t o f z front told n e d x
      (h ∙ ap (λ (y : List ℕ). after_put d 0 y) is ∙ put_fits d 0 (take n o) (omega arith) ∙ placed_start d (take n o) ∙ ap (λ (y : ℕ). take n o ++ drop y d) s)

-- what was joined at the start of a buffer is read there
module _ (w z u x : List ℕ) (n : ℕ) (size : n ≡ length w) (is : x ≡ placed z 0 w) (read : u ≡ take n x) where
  whole_read : u ≡ w
  whole_read = read ∙ rw (size, is, placed_start z w) (take-append_seam w (drop (length w) z))

  pub whole_fits : (d : List ℕ) → length w ≤ most_octets → length d ≡ most_octets → length u ≤ length d
  whole_fits d l e = omega (arith, ap length whole_read)

  module _ (k : Kind) (paged : Bool) (t : ℕ) where
    pub whole_size : (r : Option ℕ) → r ≡ length_in (packet_in k paged t u) → r ≡ length_in (packet_in k paged t w)
    whole_size r h = h ∙ ap (λ (y : List ℕ). length_in (packet_in k paged t y)) whole_read

    pub whole_put : (d e : List ℕ) → e ≡ output_with (packet_in k paged t u) d → e ≡ output_with (packet_in k paged t w) d
    whole_put d e h = h ∙ ap (λ (y : List ℕ). output_with (packet_in k paged t y) d) whole_read

pub work_room : (w : List ℕ) → length w ≤ most_octets → length w ≤ length (replicate {A = ℕ} most_octets 0)
work_room w l = rw (length-replicate {A = ℕ} most_octets 0) l

pub ruleset packet_steps = (
  rules,
  piece_new,
  piece_held,
  piece_none,
  put_placed,
  join_starts,
  join_room,
  join_goes_on,
  join_size,
  join_ends,
  none_told,
  none_kept,
  packet_told,
  packet_put,
  whole_fits,
  whole_size,
  whole_put,
  work_room,
)
