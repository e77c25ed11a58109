-- Another step back, where a slot below the most recent series is free: before, it holds a filler, a series of two parts with one of them. The call
-- brings the other part: whatever comes of the packet, the slot is free again. The filler is the least recent and has the highest count, so no
-- other slot's rank or count is touched; its sender is one that no slot has.
use Prim.Native.Nat.{ℕ, suc, ◌+◌, ◌≤◌, ◌<◌}
use mathlib.Core.Path.{◌≡◌, refl, sym, ap, ◌∙◌, subst}
use mathlib.Core.Bool.{true, false}
use mathlib.Core.List.{List}
use native.Mathlib.Omega.{arith}
use lib.ListN.{set, length-set}
use lib.Seq.{get_or-set_same, get_or-set_other}
use lib.Dec.{eqb}
use borrow.Author.Tests.{eqb-true, eq-eqb, ne_eqb}
use Rattle.octets.specs.Tests.{clash, Same, same, other, same?, by_test}
use Rattle.types.specs.declared.Kind.{Kind}
use Rattle.types.specs.declared.Key.{Key}
use Rattle.types.specs.declared.Slot.{Slot}
use Rattle.arrival.specs.Keys.{key_formed, length_fits}
use Rattle.slots.specs.Below.{all_below, any_below, count_below}
use Rattle.slots.specs.BelowLaws.{all_at, all_hold, any_at, any_hold, all_fails, count_one, count_at_most, count_full}
use Rattle.slots.specs.Slots.{most_slots, slot_at, opened, used, at_rank, at_count, held_at, with_part, closed, closed_slot, freed}
use Rattle.slots.specs.RankLaws.{Ranked, has_rank, some_rank, different, closed_near, rank_bound}
use Rattle.slots.specs.FrontLaws.{past, freed_here, freed_there, freed_length}
use Rattle.formed.specs.Formed.{most_beats, held_count, slot_formed}
use Rattle.formed.specs.Laws.{Formed, UsedSlot, slot_told, slot_count}
use Rattle.series.specs.Taking.{completes}
use Rattle.series.specs.PartLaws.{ready_opened, part_more}
use Rattle.formed.specs.SlotLaws.{free_is}
use Rattle.sequences.specs.Reachable.{KeyFits}
use Rattle.sequences.proofs.Bringing.{can_bring}
use Rattle.sequences.proofs.Fitting.{Fit, fit_else}
use Rattle.sequences.proofs.Leading.{Leads, record_of, finishes_there, lead_by_part}
use Rattle.sequences.proofs.Back.{Before, same_but, own_or_free, at_own}

-- ---- its key
-- of n + 1 numbers one is not among n: as many different ones as there are places, at most
pub spare : (n : ℕ) (f : ℕ → ℕ) → (s : ℕ) × (s ≤ n) × ((j : ℕ) → j < n → f j ≡ s → ⊥)
spare n f = by_test (all_below (suc n) (λ r. some_rank n (λ j. suc (f j)) (r + 1))) all none
  where
    all : all_below (suc n) (λ r. some_rank n (λ j. suc (f j)) (r + 1)) ≡ true → (s : ℕ) × (s ≤ n) × ((j : ℕ) → j < n → f j ≡ s → ⊥)
    all e =
        absurd (omega (
          arith,
          different n (suc n) (λ j. suc (f j)),
          count_at_most n (has_rank (λ j. suc (f j))),
          count_full (suc n) (λ r. some_rank n (λ j. suc (f j)) (r + 1)) (all_at (suc n) (λ r. some_rank n (λ j. suc (f j)) (r + 1)) e),
        ))

    none : all_below (suc n) (λ r. some_rank n (λ j. suc (f j)) (r + 1)) ≡ false → (s : ℕ) × (s ≤ n) × ((j : ℕ) → j < n → f j ≡ s → ⊥)
    none e =
        let (s, l, q) = all_fails (suc n) (λ r. some_rank n (λ j. suc (f j)) (r + 1)) e in
        (s, omega arith, λ j m p. clash (some_rank n (λ j. suc (f j)) (s + 1)) (any_hold n (λ j. eqb (suc (f j)) (s + 1)) j m (eq-eqb (suc (f j)) (s + 1) (omega arith))) q)

abbrev filler_key : ℕ → Key
filler_key s = record { sender = s; width = 8; reference = 0; serial = record { 0 = 0 }; identifier = record { 0 = 0 } }

key_formed_lem : (k : Kind) (s : ℕ) → key_formed k (filler_key s) ≡ true
unfolding key_formed
key_formed_lem k s = refl

-- both its parts are empty
empty_fits : (s : ℕ) → (length_fits (filler_key s) 1 0 ≡ true) × (length_fits (filler_key s) 2 0 ≡ true)
unfolding length_fits
empty_fits s = (refl, refl)

-- ---- the record with it, in the free slot o
module _ (n : ℕ) (k : Kind) (xs : List Slot) (w : Formed n k xs) (fit : Fit xs) (o : ℕ) (inside : o < n) (empty : (slot_at xs o).rank ≡ 0)
    (s : ℕ) (small : s ≤ n) (new : (j : ℕ) → j < n → (slot_at xs j).key.sender ≡ s → ⊥) where
  abbrev last_rank : ℕ
  last_rank = suc (count_below n (λ j. used (slot_at xs j)))

  abbrev filler : Slot
  filler = at_rank last_rank (at_count most_beats (with_part (opened (filler_key s) 2) 1 0))

  abbrev filled : List Slot
  filled = set xs o filler

  filled_here : slot_at filled o ≡ filler
  filled_here = get_or-set_same xs o filler past (omega (arith, w.high, w.array))

  filled_there : (j : ℕ) → (j ≡ o → ⊥) → slot_at filled j ≡ slot_at xs j
  filled_there j ne = get_or-set_other xs o j filler past ne

  rank_here : (slot_at filled o).rank ≡ last_rank
  rank_here = ap (λ (y : Slot). y.rank) filled_here

  rank_there : (j : ℕ) → (j ≡ o → ⊥) → (slot_at filled j).rank ≡ (slot_at xs j).rank
  rank_there j ne = ap (λ (y : Slot). y.rank) (filled_there j ne)

  filler_formed : slot_formed k filler ≡ true
  filler_formed =
      let u : UsedSlot k (with_part (opened (filler_key s) 2) 1 0) =
      part_more k (opened (filler_key s) 2) 1 0 (ready_opened k (filler_key s) 2 1 (key_formed_lem k s) refl (omega arith) (omega arith)) (omega arith) (omega arith) (empty_fits s).0 in
      slot_told k filler (omega arith) (omega arith)
      (record { key = u.key; total = u.total; parts = u.parts; some = u.some; more = u.more; lengths = u.lengths; marks = u.marks })

  one_used_more : count_below n (λ j. used (slot_at filled j)) ≡ last_rank
  one_used_more =
      count_one n (λ j. used (slot_at xs j)) (λ j. used (slot_at filled j)) o inside (rw empty) (rw (ne_eqb (slot_at filled o).rank 0 (λ z. omega (arith, rank_here))))
      (λ j m ne. ap (λ (y : Slot). used y) (filled_there j ne))

  filled_ranked : Ranked n (λ j. (slot_at filled j).rank)
  filled_ranked = all_hold (count_below n (λ j. used (slot_at filled j))) (λ r. any_below n (λ j. eqb (slot_at filled j).rank (r + 1))) (λ r m. each r m (same? (suc r) last_rank))
    where
      each : (r : ℕ) → r < count_below n (λ j. used (slot_at filled j)) → Same (suc r) last_rank → any_below n (λ j. eqb (slot_at filled j).rank (r + 1)) ≡ true
      each r m (same e q) = any_hold n (λ j. eqb (slot_at filled j).rank (r + 1)) o inside (eq-eqb (slot_at filled o).rank (r + 1) (omega (arith, rank_here)))
      each r m (other e ne) =
          let (j, l, t) = any_at n (λ j. eqb (slot_at xs j).rank (r + 1)) (all_at (count_below n (λ j. used (slot_at xs j))) (λ r. any_below n (λ j. eqb (slot_at xs j).rank (r + 1))) w.ranks r (omega (arith, one_used_more))) in
          let at : (slot_at xs j).rank ≡ r + 1 = eqb-true (slot_at xs j).rank (r + 1) t in
          any_hold n (λ j. eqb (slot_at filled j).rank (r + 1)) j l
          (eq-eqb (slot_at filled j).rank (r + 1) (rank_there j (λ q. omega (arith, ap (λ (z : ℕ). (slot_at xs z).rank) q)) ∙ at))

  -- no rank is as high as the filler's
  less_recent : (j : ℕ) → j < most_slots → (slot_at xs j).rank < last_rank
  less_recent j l =
      own_or_free n k xs w (λ j. (slot_at xs j).rank < last_rank) j l (λ m. let h = rank_bound n (λ z. (slot_at xs z).rank) w.ranks j m in omega arith) (λ z. omega arith)

  new_there : (j : ℕ) → j < n → (j ≡ o → ⊥) → (slot_at filled j).key ≡ filler_key s → ⊥
  new_there j l ne q = new j l (ap (λ (x : Key). x.sender) (ap (λ (y : Slot). y.key) (sym (filled_there j ne)) ∙ q))

  key_here : (j : ℕ) → j ≡ o → (slot_at filled j).key ≡ filler_key s
  key_here j q = ap (λ (z : ℕ). (slot_at filled z).key) q ∙ ap (λ (y : Slot). y.key) filled_here

  filled_formed : Formed n k filled
  filled_formed = record {
    low = w.low;
    high = w.high;
    array = length-set xs o filler ∙ w.array;
    slots = λ j m. slot_there j m (same? j o);
    keys = λ i j l m u v q. keys_there i j l m u v q (same? i o) (same? j o);
    ranks = filled_ranked;
    counts = λ i j l m u v. counts_there i j l m u v (same? i o) (same? j o);
    rest = λ j l m. let ne : j ≡ o → ⊥ = λ q. omega arith in (ap (slot_formed k) (filled_there j ne) ∙ (w.rest j l m).0, rank_there j ne ∙ (w.rest j l m).1);
  }
    where
      slot_there : (j : ℕ) → j < n → Same j o → slot_formed k (slot_at filled j) ≡ true
      slot_there j m (same e q) = ap (λ (z : ℕ). slot_formed k (slot_at filled z)) q ∙ ap (slot_formed k) filled_here ∙ filler_formed
      slot_there j m (other e ne) = ap (slot_formed k) (filled_there j ne) ∙ w.slots j m

      keys_there : (i j : ℕ) → i < n → j < n → 0 < (slot_at filled i).rank → 0 < (slot_at filled j).rank → (slot_at filled i).key ≡ (slot_at filled j).key
          → Same i o → Same j o → i ≡ j
      keys_there i j l m u v q (same e p) (same f r) = p ∙ sym r
      keys_there i j l m u v q (same e p) (other f ne) = absurd (new_there j m ne (sym q ∙ key_here i p))
      keys_there i j l m u v q (other e ne) (same f r) = absurd (new_there i l ne (q ∙ key_here j r))
      keys_there i j l m u v q (other e ne) (other f nf) =
          w.keys i j l m (omega (arith, rank_there i ne)) (omega (arith, rank_there j nf))
          (ap (λ (y : Slot). y.key) (sym (filled_there i ne)) ∙ q ∙ ap (λ (y : Slot). y.key) (filled_there j nf))

      counts_there : (i j : ℕ) → i < n → j < n → 0 < (slot_at filled i).rank → (slot_at filled i).rank < (slot_at filled j).rank → Same i o → Same j o
          → (slot_at filled i).beats ≤ (slot_at filled j).beats
      counts_there i j l m u v (same e p) (same f r) = absurd (omega (arith, ap (λ (z : ℕ). (slot_at filled z).rank) (p ∙ sym r)))
      counts_there i j l m u v (same e p) (other f ne) =
          absurd (omega (arith, ap (λ (z : ℕ). (slot_at filled z).rank) p, rank_here, rank_there j ne, less_recent j (omega (arith, w.high))))
      counts_there i j l m u v (other e ne) (same f r) =
          omega (
            arith,
            ap (λ (y : Slot). y.beats) (filled_there i ne),
            slot_count k (slot_at xs i) (w.slots i l) (omega (arith, rank_there i ne)),
            ap (λ (z : ℕ). (slot_at filled z).beats) r,
            ap (λ (y : Slot). y.beats) filled_here,
          )
      counts_there i j l m u v (other e ne) (other f nf) =
          omega (
            arith,
            w.counts i j l m (omega (arith, rank_there i ne)) (omega (arith, rank_there i ne, rank_there j nf)),
            ap (λ (y : Slot). y.beats) (filled_there i ne),
            ap (λ (y : Slot). y.beats) (filled_there j nf),
          )

  filler_fits : KeyFits (filler_key s)
  filler_fits = record { sender = omega (arith, w.high); serial = omega arith }

  filled_fit : Fit filled
  filled_fit = fit_else xs filled o (λ j ne. ap (λ (y : Slot). y.key) (filled_there j ne)) (subst KeyFits (sym (key_here o refl)) filler_fits) fit

  freed_again : freed filled o ≡ xs
  freed_again =
      same_but (freed filled o) xs o (freed_length filled o ∙ filled_formed.array) w.array
      (freed_here filled o (omega (arith, w.high, filled_formed.array)) ∙ sym (free_is k (slot_at xs o) (w.slots o inside) empty))
      (λ j m ne. freed_there filled o j ne ∙ ap (λ (y : Slot). closed_slot (slot_at filled o).rank y) (filled_there j ne)
      ∙ at_own (slot_at xs j) (closed (slot_at filled o).rank (slot_at xs j).rank)
      (closed_near (slot_at filled o).rank (slot_at xs j).rank (omega (arith, rank_here, less_recent j m))))

  filled_leads : Leads n k filled xs
  unfolding all_below
  filled_leads =
      lead_by_part n k filled xs filled_formed (filler_key s) 2 2 0
      (can_bring k (filler_key s) 2 2 0 filler_fits (key_formed_lem k s) refl (omega arith) (omega arith) (empty_fits s).1)
      (λ cells output octets size.
      finishes_there n k filled filled_formed cells output (filler_key s) 2 2 octets o
      (record { inside = inside; used = omega (arith, rank_here); key = ap (λ (y : Slot). y.key) filled_here })
      (ap (λ (y : Slot). y.total) filled_here)
      (ap (λ (y : Slot). held_at y 2) filled_here)
      (ap (λ (y : Slot). completes y 2) filled_here)
      ∙ ap (record_of n k) freed_again)

  filler_holds : held_count (slot_at filled o) ≡ 1
  unfolding count_below
  filler_holds = ap (λ (y : Slot). held_count y) filled_here

pub filler_before : (n : ℕ) (k : Kind) (xs : List Slot) → Formed n k xs → Fit xs → (o : ℕ) → o < n → (slot_at xs o).rank ≡ 0
    → (ys : List Slot) × Before n k ys xs × (0 < (slot_at ys o).rank) × (held_count (slot_at ys o) ≡ 1) × ((j : ℕ) → (j ≡ o → ⊥) → slot_at ys j ≡ slot_at xs j)
filler_before n k xs w fit o inside empty =
    let (s, top, new) = spare n (λ j. (slot_at xs j).key.sender) in (
      filled n k xs w fit o inside empty s top new,
      record {
        formed = filled_formed n k xs w fit o inside empty s top new;
        fit = filled_fit n k xs w fit o inside empty s top new;
        leads = filled_leads n k xs w fit o inside empty s top new;
      },
      omega (arith, rank_here n k xs w fit o inside empty s top new),
      filler_holds n k xs w fit o inside empty s top new,
      filled_there n k xs w fit o inside empty s top new,
    )
