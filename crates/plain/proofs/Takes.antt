-- From a log and a record with cells that are the same, a part comes to the same through both engines, by every case of a part.
use Rattle.std.specs.Prelude.{ℕ, suc, ◌+◌, ◌-◌, ◌≤◌, ◌<◌, ◌≡◌, refl, Bool, not, ◌||◌, List, [], ◌∷◌, ◌++◌, length, eqb}
use Rattle.std.proofs.Math.Path.{sym}
use Rattle.std.proofs.Common.{ap, ◌∙◌, subst, arith, eqb-true, ne_eqb}
use Rattle.std.proofs.Math.Bool.{true, false, cond}
use Rattle.std.proofs.Math.Option.{Option, none, some}
use Rattle.std.proofs.lemmas.Bool.{eqb-false}
use Rattle.octets.specs.Octets.{same_octets}
use Rattle.octets.specs.Tests.{clash, both, both_hold}
use Rattle.types.specs.declared.Kind.{Kind}
use Rattle.types.specs.declared.Key.{Key}
use Rattle.types.specs.declared.Slot.{Slot}
use Rattle.types.specs.declared.Record.{Record}
use Rattle.arrival.specs.Message.{most_parts}
use Rattle.arrival.specs.Keys.{of_pages}
use Rattle.arrival.specs.Laws.{Admitted}
use Rattle.joined.specs.Fronts.{packet_in}
use Rattle.slots.specs.BelowLaws.{all_same, all_at}
use Rattle.slots.specs.RankLaws.{pos_taken, ranks_differ, last_rank_lem}
use Rattle.slots.specs.FrontLaws.{same_key_lem, key_same, FoundIn, hit_in, miss_in, find_in?}
use Rattle.slots.specs.Slots.{slot_at, opened, used, bears, is_free, is_least_recent, find_in, slot_or, held_at, with_slots, freed, same_key}
use Rattle.formed.specs.Formed.{mark_at}
use Rattle.formed.specs.Laws.{UsedSlot, array_holds}
use Rattle.cells.specs.Cells.{cell_octets, cell_part, joined_octets, part_of}
use Rattle.cells.specs.CellLaws.{joined_same}
use Rattle.series.specs.KeepLaws.{short, Sound}
use Rattle.series.specs.PartLaws.{total_bounds}
use Rattle.series.specs.Taking as taking
use Rattle.series.specs.Taking.{State, refuses, repeats, keeps, finishes, completes, acted, step_in, step_new, step_for, step}
use Rattle.plain.specs.Entries.{Entry}
use Rattle.plain.specs.Log.{first_entry, is_some, has_entry, has_key, is_part, of_rank, free_from, without, touch, close, Result, result_of, log_hand_out, octets_in, new_entry, log_complete, whole, in_part, in_series, log_opens, displaces, new_series, for_series, log_take_part}
use Rattle.plain.specs.Same.{Fits, SameLog, Equal}
use Rattle.plain.specs.Walks.{is_part_lem, first_tells, Finds, finds_one, finds_none, finds?, free_hit, free_miss}
use Rattle.plain.specs.Copies.{has_part, has_slot, no_slot, has_key_lem, has_rank_lem, same_touch, same_drop, same_more, same_new, used_at}

-- handing out, or refusing 9
pub handed : (n : ℕ) (s : State) (r : Record) (log : List Entry) (o : Option (List ℕ)) → SameLog n r.slots s.cells log
    → Equal n (log_hand_out log s.output o) (taking.hand_out s r o)
handed n s r log none h = record { answer = refl; output = refl; same = h }
handed n s r log (some p) h = record { answer = refl; output = refl; same = h }

module _ (n : ℕ) (s : State) (w : Sound n s.rec s.cells) (log : List Entry) (h : SameLog n s.rec.slots s.cells log) (key : Key) (total number : ℕ) (octets : List ℕ)
    (adm : Admitted s.rec.kind key total number octets) where
  abbrev xs : List Slot
  xs = s.rec.slots

  abbrev kind : Kind
  kind = s.rec.kind

  enough : n ≤ length xs
  enough = array_holds n kind xs w.formed

  most : total ≤ most_parts
  most = (total_bounds key total adm.total_fits).1

  high : number ≤ most_parts
  high = omega (arith, most, adm.high)

  fits : length octets ≤ cell_octets
  fits = short key number (length octets) adm.length_fits

  -- ---- in a series that is there, of which e is an entry
  module _ (e : Entry) (f : Fits n xs s.cells e) (mine : e.key ≡ key) where
    abbrev x : Slot
    x = slot_at xs e.slot

    was_used : UsedSlot kind x
    was_used = used_at n kind xs s.cells log w.formed h e.slot f.inside (omega (arith, f.rank, f.used))

    abbrev comes_to : Option Entry → Result
    comes_to = in_part n kind log s.output key total number octets e

    -- the part is held, with these octets or with others
    held_case : (p : Entry) (b : Bool) → same_octets p.octets octets ≡ b
        → Equal n (cond b (result_of (taking.held_already e.slot) (touch e.slot e.rank log) s.output) (result_of (taking.refused_by 8) log s.output))
        (acted n s key total number octets (cond b (repeats e.slot) (refuses 8)))
    held_case p true c = record { answer = refl; output = refl; same = same_touch n kind xs s.cells log w.formed h e.slot f.inside e.rank f.rank }
    held_case p false c = record { answer = refl; output = refl; same = h }

    -- what the walk for a part finds is what its cell holds
    there : (m : ℕ) (p : Entry) → first_entry (is_part e.slot m) log ≡ some p → cell_part s.cells x e.slot m ≡ p.octets
    there m p q =
        let (g, t) = first_tells (Fits n xs s.cells) (is_part e.slot m) log h.each p q in
        let (a, b) = is_part_lem e.slot m p t in
        rw (← a, ← b) g.octets

    -- the part is new: it completes the series or not
    same_complete : x.total ≡ total → log_complete n kind log s.output key total number octets e.slot ≡ completes x number
    same_complete t =
        rw t (all_same total (λ j. eqb (j + 1) number || has_entry (is_part e.slot (j + 1)) log) (λ j. eqb (j + 1) number || mark_at x j)
        (λ j l. let m : j + 1 - 1 ≡ j = omega arith in
        ap (λ (c : Bool). eqb (j + 1) number || c) (has_part n kind xs s.cells log w.formed h e.slot (j + 1) f.inside (omega arith) (omega (arith, most)) ∙ rw m)))

    same_whole : x.total ≡ total → completes x number ≡ true
        → whole n kind log s.output key total number octets e.slot ≡ joined_octets s.cells x e.slot number octets
    unfolding joined_octets
    same_whole t c =
        rw t (joined_same (λ m. cond (eqb m number) octets (octets_in (first_entry (is_part e.slot m) log))) (part_of s.cells x e.slot number octets) total each)
      where
        walk : (m : ℕ) (r : Option Entry) → Finds (is_part e.slot m) log r → is_some r ≡ true → octets_in r ≡ cell_part s.cells x e.slot m
        walk m r (finds_one p q) z = sym (there m p q)
        walk m r (finds_none q) z = absurd (clash false z refl)

        by : (i : ℕ) → i < total → (b : Bool) → eqb (i + 1) number ≡ b → b || mark_at x i ≡ true
            → cond b octets (octets_in (first_entry (is_part e.slot (i + 1)) log)) ≡ cond b octets (cell_part s.cells x e.slot (i + 1))
        by i l true q z = refl
        by i l false q z =
            let m : i + 1 - 1 ≡ i = omega arith in
            walk (i + 1) (first_entry (is_part e.slot (i + 1)) log) (finds? (is_part e.slot (i + 1)) log) (h.back e.slot (i + 1) f.inside (omega arith) (omega (arith, most)) (rw m z))

        each : (i : ℕ) → i < total → cond (eqb (suc i) number) octets (octets_in (first_entry (is_part e.slot (suc i)) log)) ≡ part_of s.cells x e.slot number octets (suc i)
        each i l =
            let m : suc i ≡ i + 1 = omega arith in
            rw m (by i l (eqb (i + 1) number) refl (all_at total (λ j. eqb (j + 1) number || mark_at x j) (rw t at c) i l))

    new_case : x.total ≡ total → held_at x number ≡ false → (b : Bool) → completes x number ≡ b
        → Equal n
        (cond b (log_hand_out (close e.rank (without e.slot log)) s.output (packet_in kind (of_pages key) total (whole n kind log s.output key total number octets e.slot)))
        (result_of (taking.kept e.slot false) (touch e.slot e.rank log ++ new_entry n kind log s.output key total number octets e.slot ∷ []) s.output))
        (acted n s key total number octets (cond b (finishes e.slot) (keeps e.slot false x)))
    new_case t d true c =
        rw (same_whole t c)
        (handed n s (with_slots s.rec (freed xs e.slot)) (close e.rank (without e.slot log)) (packet_in kind (of_pages key) total (joined_octets s.cells x e.slot number octets))
        (same_drop n kind xs s.cells log w.formed h e.slot f.inside e.rank f.rank f.used))
    new_case t d false c = record {
      answer = refl;
      output = refl;
      same = same_more n kind xs s.cells log w.formed h e.slot f.inside e.rank f.rank w.size key total number octets adm.low high fits was_used (f.key ∙ mine) t d;
    }

    part_case : x.total ≡ total → (r : Option Entry) → Finds (is_part e.slot number) log r → (b : Bool) → held_at x number ≡ b → is_some r ≡ b
        → Equal n (comes_to r)
        (acted n s key total number octets (cond b (cond (same_octets (cell_part s.cells x e.slot number) octets) (repeats e.slot) (refuses 8)) (cond (completes x number) (finishes e.slot) (keeps e.slot false x))))
    part_case t r (finds_one p q) true d z = rw (there number p q) (held_case p (same_octets p.octets octets) refl)
    part_case t r (finds_none q) false d z = rw (same_complete t) (new_case t d (completes x number) refl)
    part_case t r (finds_one p q) false d z = absurd (clash true refl z)
    part_case t r (finds_none q) true d z = absurd (clash false z refl)

    series_case : (b : Bool) → eqb x.total total ≡ b
        → Equal n (cond (not b) (result_of (taking.refused_by 7) log s.output) (comes_to (first_entry (is_part e.slot number) log)))
        (acted n s key total number octets (cond (not b) (refuses 7) (cond (held_at x number) (cond (same_octets (cell_part s.cells x e.slot number) octets) (repeats e.slot) (refuses 8)) (cond (completes x number) (finishes e.slot) (keeps e.slot false x)))))
    series_case false t = record { answer = refl; output = refl; same = h }
    series_case true t =
        part_case (eqb-true x.total total t) (first_entry (is_part e.slot number) log) (finds? (is_part e.slot number) log) (held_at x number) refl
        (has_part n kind xs s.cells log w.formed h e.slot number f.inside adm.low high)

    in_series_lem : Equal n (in_series n kind log s.output key total number octets e) (acted n s key total number octets (step_in n s key total number octets e.slot x))
    in_series_lem =
        subst (λ (t : ℕ). Equal n (cond (not (eqb t total)) (result_of (taking.refused_by 7) log s.output) (comes_to (first_entry (is_part e.slot number) log))) (acted n s key total number octets (step_in n s key total number octets e.slot x)))
        f.total (series_case (eqb x.total total) refl)

  -- ---- a new series
  opens_in : (i r : ℕ) (d : Bool) → i < n → (slot_at xs i).rank ≡ r
      → Equal n (log_opens n kind log s.output key total number octets i r d) (acted n s key total number octets (keeps i d (opened key total)))
  opens_in i r d l q = record {
    answer = refl;
    output = refl;
    same = same_new n kind xs s.cells log w.formed h i l r q w.size key total number octets adm.low high fits;
  }

  displaces_in : ((j : ℕ) → j < n → 0 < (slot_at xs j).rank) → (r : Option ℕ) → FoundIn n (is_least_recent n) xs r → (o : Option Entry) → Finds (of_rank n) log o
      → Equal n (displaces n kind log s.output key total number octets o) (acted n s key total number octets (keeps (slot_or 0 r) true (opened key total)))
  displaces_in all r (hit_in i l t m) o (finds_one e q) =
      let (g, z) = first_tells (Fits n xs s.cells) (of_rank n) log h.each e q in
      let p : (slot_at xs i).rank ≡ n = eqb-true (slot_at xs i).rank n t in
      let same : e.slot ≡ i =
      ranks_differ n (λ j. (slot_at xs j).rank) w.formed.ranks e.slot i g.inside l (omega (arith, p, w.formed.low)) (g.rank ∙ eqb-true e.rank n z ∙ sym p) in
      rw same (opens_in i n true l p)
  displaces_in all r (hit_in i l t m) o (finds_none q) =
      absurd (clash (has_entry (of_rank n) log) (has_rank_lem n kind xs s.cells log w.formed h i n l w.formed.low (eqb-true (slot_at xs i).rank n t)) q)
  displaces_in all r (miss_in m) o z =
      let (i, l, q) = last_rank_lem n (λ j. (slot_at xs j).rank) w.formed.ranks w.formed.low all in absurd (eqb-false (slot_at xs i).rank n (m i l) q)

  pos_of : (j : ℕ) → is_free (slot_at xs j) ≡ false → 0 < (slot_at xs j).rank
  pos_of j t = let ne = eqb-false (slot_at xs j).rank 0 t in omega arith

  new_series_lem : (r : Option ℕ) → FoundIn n is_free xs r
      → Equal n (new_series n kind log s.output key total number octets (free_from log 0 n)) (acted n s key total number octets (step_new n s key total number octets r))
  new_series_lem r (hit_in i l t m) =
      let z : (slot_at xs i).rank ≡ 0 = eqb-true (slot_at xs i).rank 0 t in
      rw (free_hit log n 0 i (omega arith) (omega arith) (no_slot n kind xs s.cells log w.formed h i z) (λ j a b. has_slot n kind xs s.cells log w.formed h j (omega arith) (pos_of j (m j b))))
      (opens_in i 0 false l z)
  new_series_lem r (miss_in m) =
      let all : (j : ℕ) → j < n → 0 < (slot_at xs j).rank = λ j l. pos_of j (m j l) in
      rw (free_miss log n 0 (λ j a b. has_slot n kind xs s.cells log w.formed h j (omega arith) (all j (omega arith))))
      (displaces_in all (find_in n (is_least_recent n) xs) (find_in? n (is_least_recent n) xs enough) (first_entry (of_rank n) log) (finds? (of_rank n) log))

  -- ---- any part
  any_series : (r : Option ℕ) → FoundIn n (bears key) xs r → (o : Option Entry) → Finds (has_key key) log o
      → Equal n (for_series n kind log s.output key total number octets o) (acted n s key total number octets (step_for n s key total number octets r))
  any_series r (hit_in i l t m) o z =
      let (u, q) = both (used (slot_at xs i)) (same_key (slot_at xs i).key key) t in
      go (pos_taken (slot_at xs i).rank u) (same_key_lem (slot_at xs i).key key q) o z
    where
      go : 0 < (slot_at xs i).rank → (slot_at xs i).key ≡ key → (o : Option Entry) → Finds (has_key key) log o
          → Equal n (for_series n kind log s.output key total number octets o) (acted n s key total number octets (step_in n s key total number octets i (slot_at xs i)))
      go u q o (finds_one e p) =
          let (g, z) = first_tells (Fits n xs s.cells) (has_key key) log h.each e p in
          let mine : e.key ≡ key = same_key_lem e.key key z in
          let same : e.slot ≡ i = w.formed.keys e.slot i g.inside l (omega (arith, g.rank, g.used)) u (g.key ∙ mine ∙ sym q) in
          subst (λ (j : ℕ). Equal n (in_series n kind log s.output key total number octets e) (acted n s key total number octets (step_in n s key total number octets j (slot_at xs j)))) same (in_series_lem e g mine)
      go u q o (finds_none p) = absurd (clash (has_entry (has_key key) log) (has_key_lem n kind xs s.cells log w.formed h i l u key q) p)
  any_series r (miss_in m) o (finds_none p) = new_series_lem (find_in n is_free xs) (find_in? n is_free xs enough)
  any_series r (miss_in m) o (finds_one e p) =
      let (g, z) = first_tells (Fits n xs s.cells) (has_key key) log h.each e p in
      absurd (clash (bears key (slot_at xs e.slot))
      (both_hold (used (slot_at xs e.slot)) (same_key (slot_at xs e.slot).key key) (rw (ne_eqb (slot_at xs e.slot).rank 0 (λ y. omega (arith, g.rank, g.used))))
      (key_same (slot_at xs e.slot).key key (g.key ∙ same_key_lem e.key key z))) (m e.slot g.inside))

  pub part_equal : Equal n (log_take_part n kind log s.output key total number octets) (taking.take_part n s key total number octets)
  unfolding log_take_part taking.take_part step
  part_equal = any_series (find_in n (bears key) xs) (find_in? n (bears key) xs enough) (first_entry (has_key key) log) (finds? (has_key key) log)
