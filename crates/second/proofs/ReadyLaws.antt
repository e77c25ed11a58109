-- What a log that passes the test leaves room for: it can be changed and have an entry more, and the parts of a series join to no more than the longest
-- packet.
use Prim.Native.Nat.{ℕ, zero, suc, ◌+◌, ◌-◌, ◌*◌, ◌≤◌, ◌<◌}
use mathlib.Core.Path.{◌≡◌, refl}
use mathlib.Core.Bool.{Bool, true, false, cond}
use mathlib.Core.List.{List}
use mathlib.Core.Option.{Option}
use native.Mathlib.Omega.{arith}
use lib.ListN.{length, length-append, length-take}
use lib.Dec.{eqb, leb}
use borrow.Author.Tests.{eqb-true, leb-true}
use Rattle.octets.specs.Joined.{joined}
use Rattle.types.specs.declared.Kind.{Kind}
use Rattle.types.specs.declared.Key.{Key}
use Rattle.packet.specs.Packets.{most_octets}
use Rattle.arrival.specs.Message.{most_parts}
use Rattle.arrival.specs.Page.{page_content}
use Rattle.arrival.specs.Keys.{of_pages, length_fits}
use Rattle.series.specs.PartLaws.{total_bounds}
use Rattle.series.specs.KeepLaws.{short}
use Rattle.plain.specs.Entries.{Entry, log_entry_at, entries_from}
use Rattle.plain.specs.Log.{first_entry, is_part, octets_in}
use Rattle.plain.specs.Same.{All, nil, cons}
use Rattle.plain.specs.Walks.{Finds, finds_one, finds_none, finds?, first_tells, is_part_lem, all_and}
use Rattle.plain.specs.Tells.{Ok}
use Rattle.copies.specs.Copying.{CanChange, CanKeep}
use Rattle.copies.specs.FitLaws.{entries_ok, sound_changes, sound_keeps}
use Rattle.second.specs.Acting.{ReadyLog, log_piece, whole_of}

-- ---- how many octets
-- part 1 has two fewer at most
abbrev most_of : ℕ → ℕ
most_of k = 134 - cond (eqb k 1) 2 0

fits_most : (x : Key) (k n : ℕ) → length_fits x k n ≡ true → n ≤ most_of k
unfolding length_fits
fits_most x k n = go (of_pages x) (eqb x.width 16) (eqb k 1)
  where
    go : (p w f : Bool) → cond p (eqb n page_content) (leb n (cond w 133 134 - cond f 2 0)) ≡ true → n ≤ 134 - cond f 2 0
    go true w true e = omega (arith, eqb-true n page_content e)
    go true w false e = omega (arith, eqb-true n page_content e)
    go false true true e = omega (arith, leb-true n 131 e)
    go false true false e = omega (arith, leb-true n 133 e)
    go false false f e = leb-true n (134 - cond f 2 0) e

-- an entry has no more octets than it says
octets_within : (lent : List ℕ) (i : ℕ) → length (log_entry_at lent i).octets ≤ (log_entry_at lent i).size
unfolding log_entry_at
octets_within lent i = simp length-take (omega arith)

within : (lent : List ℕ) (m b : ℕ) → All (λ e. length e.octets ≤ e.size) (entries_from lent b m)
unfolding entries_from
within lent zero b = nil
within lent (suc m) b = cons (octets_within lent b) (within lent m (suc b))

joined_most : (f : ℕ → List ℕ) (n : ℕ) → ((k : ℕ) → 0 < k → k ≤ suc n → length (f k) ≤ most_of k) → length (joined f (suc n)) + 2 ≤ 134 * suc n
unfolding joined
joined_most f zero h = omega (arith, h 1 (omega arith) (omega arith))
joined_most f (suc n) h =
    rw (length-append (joined f (suc n)) (f (suc (suc n))))
    (omega (arith, joined_most f n (λ k u v. h k u (omega arith)), bound (suc (suc n)) (length (f (suc (suc n)))) (h (suc (suc n)) (omega arith) (omega arith))))
  where
    bound : (k x : ℕ) → x ≤ most_of k → x ≤ 134
    bound k x l = go (eqb k 1) l
      where
        go : (b : Bool) → x ≤ 134 - cond b 2 0 → x ≤ 134
        go true l = omega arith
        go false l = l

module _ (n : ℕ) (k₀ : Kind) (lent : List ℕ) (m : ℕ) (ok : All (Ok n k₀ (entries_from lent 0 m)) (entries_from lent 0 m)) (slot number : ℕ) (part : List ℕ) (key : Key)
    (fits : length_fits key number (length part) ≡ true) where
  abbrev log : List Entry
  log = entries_from lent 0 m

  held_most : (k : ℕ) → length (octets_in (first_entry (is_part slot k) log)) ≤ most_of k
  held_most k = go (first_entry (is_part slot k) log) (finds? (is_part slot k) log)
    where
      go : (o : Option Entry) → Finds (is_part slot k) log o → length (octets_in o) ≤ most_of k
      go o (finds_one e q) =
          let ((g, l), t) = first_tells (λ e. Ok n k₀ log e × (length e.octets ≤ e.size)) (is_part slot k) log (all_and (Ok n k₀ log) (λ e. length e.octets ≤ e.size) log ok (within lent m 0)) e q in
          let z : e.number ≡ k = (is_part_lem slot k e t).1 in
          let b : e.size ≤ most_of k = rw (← z) (fits_most e.key e.number e.size g.length) in
          omega arith
      go o (finds_none q) = omega arith

  piece_most : (k : ℕ) → length (log_piece log slot number part k) ≤ most_of k
  piece_most k = go (eqb k number) refl
    where
      go : (b : Bool) → eqb k number ≡ b → length (cond b part (octets_in (first_entry (is_part slot k) log))) ≤ most_of k
      go true e = rw (eqb-true k number e) (fits_most key number (length part) fits)
      go false e = held_most k

  whole_most : (total : ℕ) → total ≤ most_parts → length (whole_of log slot total number part) ≤ most_octets
  unfolding joined
  whole_most zero l = omega arith
  whole_most (suc t) l = omega (arith, joined_most (log_piece log slot number part) t (λ k u v. piece_most k))

-- ---- as the functions ask for it
module _ (n : ℕ) (k : Kind) (lent : List ℕ) (m : ℕ) (key : Key) (total number : ℕ) (part output : List ℕ) (r : ReadyLog n k lent m key total number part output) where
  pub ready_change : CanChange lent m
  ready_change = sound_changes n k lent m r.sound

  pub ready_keep : CanKeep lent m part
  ready_keep = sound_keeps n k lent m part r.sound (short key number (length part) r.admitted.length_fits)

  pub ready_wide : length output ≡ most_octets
  ready_wide = r.wide

  pub ready_whole : (slot : ℕ) → length (whole_of (entries_from lent 0 m) slot total number part) ≤ most_octets
  ready_whole slot = whole_most n k lent m (entries_ok n k (entries_from lent 0 m) r.sound.formed) slot number part key r.admitted.length_fits total (total_bounds key total r.admitted.total_fits).1

pub ruleset ready_steps = (
  ready_change,
  ready_keep,
  ready_wide,
  ready_whole,
)
