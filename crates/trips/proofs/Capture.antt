-- Salvaging a capture. The tests find a record that is written as 02 says, and no other (`sound_so`, `sound_only_so`). One induction along the file
-- (`along`) gives the records that are copied and the run at a position. Every file can be divided into sound records and longest runs
-- (`some_division`); whatever the division, it is the one that the rules give (`only`), since each of its pieces is one step of the reading. What is
-- copied is records one behind the other, and these are sound again: so nothing more is skipped of it.
use Prim.Native.Nat.{ℕ, zero, suc, ◌+◌, ◌≤◌, ◌<◌}
use mathlib.Core.Path.{◌≡◌, refl, sym, ap, ◌∙◌}
use mathlib.Core.Bool.{true, false, ◌&&◌, ◌||◌, or-true}
use mathlib.Core.List.{List, [], ◌∷◌, ◌++◌, append_assoc}
use mathlib.Core.Logic.{◌⊎◌, inl, inr, ⊎_elim}
use native.Mathlib.Omega.{arith}
use native.Mathlib.Nat.{zero-add}
use lib.ListN.{length, take, drop, length-append, take-append-drop, drop_of_length-le}
use lib.Seq.{length-take-le, take_all, take-append_seam, drop-append_seam, drop-drop}
use lib.Dec.{eqb, leb}
use borrow.Author.Tests.{eqb-true, leb-true, eq-eqb, ne_eqb, le-leb, lt-ltb, le-ltb}
use Rattle.octets.specs.Tests.{clash, both, by_test}
use Rattle.types.specs.declared.SkippedRun.{SkippedRun}
use Rattle.capture.specs.Captures.{has_mark, record_length, right_head, begins_right, sound, fates, chosen, salvaged, leading, next_run, most_capture, salvaging, sound_alone, record_in}
use Rattle.capture.specs.Laws.{skipped_at, sound_inside, unsound_none, salvaged_sound, salvaged_skip, salvaged_none, skipped_none, skipped_sound, skipped_skip, run_sound, run_here, along}
use Rattle.sequences.specs.Lists.{concat}
use Rattle.trips.specs.Capture.{CaptureRecord, in_user_data, in_page, EndOrMark, file_end, next_mark, SoundAt, EveryRecord, run_of, Divides, ends, copies, skips, Listed, no_more, one_more, octets_skipped, Divided, OnlySo, StandsIn, InRecords, FromPosition, ByItself, SalvagesOrRefuses, capture_examples, EveryCapture, Salvage}

-- ---- a record, by its octets and by the tests
record_head_lem : {r : List ℕ} → CaptureRecord r → (rest : List ℕ) → (begins_right (r ++ rest) ≡ true) × (record_length (r ++ rest) ≡ length r)
record_head_lem (in_user_data own l) rest = (rw (le-leb (length own) 140 l), omega arith)
record_head_lem (in_page own e) rest = (refl, omega arith)

sound_before : {r rest : List ℕ} → CaptureRecord r → EndOrMark rest → sound (r ++ rest) ≡ true
unfolding sound
sound_before {r} c file_end =
    let (b, l) = record_head_lem c [] in rw (b, l, eq-eqb (length (r ++ [])) (length r) (omega (arith, length-append r [])))
sound_before {r} c (next_mark more) =
    let (b, l) = record_head_lem c (0xA5 ∷ 0x5A ∷ more) in rw (b, l, drop-append_seam r (0xA5 ∷ 0x5A ∷ more), or-true)

pub sound_so : (o : List ℕ) → SoundAt o → sound o ≡ true
sound_so o s = rw s.front (sound_before s.right s.behind)

user_record : (k n : ℕ) (own : List ℕ) → k ≡ 1 → n ≡ length own → n ≤ 140 → CaptureRecord (0xA5 ∷ 0x5A ∷ k ∷ n ∷ own)
user_record k n own e f l = rw (e, f) (in_user_data own (omega arith))

page_record : (k n : ℕ) (own : List ℕ) → k ≡ 2 → n ≡ 88 → n ≡ length own → CaptureRecord (0xA5 ∷ 0x5A ∷ k ∷ n ∷ own)
page_record k n own e f l = rw (e, f) (in_page own (omega arith))

record_found : (o : List ℕ) → begins_right o ≡ true → record_length o ≤ length o → CaptureRecord (take (record_length o) o)
record_found [] t l = absurd (omega arith)
record_found (a ∷ []) t l = absurd (omega arith)
record_found (a ∷ b ∷ []) t l = absurd (omega arith)
record_found (a ∷ b ∷ k ∷ []) t l = absurd (omega arith)
record_found (a ∷ b ∷ k ∷ n ∷ o) t l =
    let (m, h) = both (eqb a 0xA5 && eqb b 0x5A) (right_head k n) t in
    let (p, q) = both (eqb a 0xA5) (eqb b 0x5A) m in
    let s : n ≡ length (take n o) = sym (length-take-le n o (omega arith)) in
    let four : 4 + n ≡ suc (suc (suc (suc n))) = omega arith in
    rw (four, eqb-true a 0xA5 p, eqb-true b 0x5A q)
    (by_test (eqb k 1 && leb n 140)
    (λ u. let (x, y) = both (eqb k 1) (leb n 140) u in user_record k n (take n o) (eqb-true k 1 x) s (leb-true n 140 y))
    (λ u. let (x, y) = both (eqb k 2) (eqb n 88) (rw u at h) in page_record k n (take n o) (eqb-true k 2 x) (eqb-true n 88 y) s))

mark_found : (o : List ℕ) → has_mark o ≡ true → EndOrMark o
mark_found [] e = file_end
mark_found (x ∷ []) e = absurd (clash false (both (eqb x 0xA5) false e).1 refl)
mark_found (x ∷ y ∷ o) e = let (p, q) = both (eqb x 0xA5) (eqb y 0x5A) e in rw (eqb-true x 0xA5 p, eqb-true y 0x5A q) (next_mark o)

first_record : (o : List ℕ) → sound o ≡ true → CaptureRecord (take (record_length o) o)
unfolding sound
first_record o e =
    record_found o (both (begins_right o) (eqb (length o) (record_length o) || has_mark (drop (record_length o) o)) e).0 (sound_inside o e)

pub sound_only_so : (o : List ℕ) → sound o ≡ true → SoundAt o
unfolding sound
sound_only_so o e =
    let n = record_length o in
    let f = (both (begins_right o) (eqb (length o) n || has_mark (drop n o)) e).1 in
    record {
      captured = take n o;
      rest = drop n o;
      front = sym (take-append-drop n o);
      right = first_record o e;
      behind = by_test (eqb (length o) n) (λ t. rw (drop_of_length-le o {i = n} (omega (arith, eqb-true (length o) n t))) file_end) (λ t. mark_found (drop n o) (rw t at f));
    }

unsound_so : (o : List ℕ) → (SoundAt o → ⊥) → sound o ≡ false
unsound_so o n = by_test (sound o) (λ t. absurd (n (sound_only_so o t))) (λ t. t)

-- ---- what is copied
salvaged_record : {r rest : List ℕ} → CaptureRecord r → EndOrMark rest → salvaged (r ++ rest) ≡ r ++ salvaged rest
salvaged_record {r} {rest} c e =
    salvaged_sound (r ++ rest) (sound_before c e) ∙ rw ((record_head_lem c rest).1, take-append_seam r rest, drop-append_seam r rest)

starts_with : {r : List ℕ} → CaptureRecord r → (rest : List ℕ) → EndOrMark (r ++ rest)
starts_with (in_user_data own l) rest = next_mark (1 ∷ length own ∷ own ++ rest)
starts_with (in_page own l) rest = next_mark (2 ∷ 88 ∷ own ++ rest)

starts : (records : List (List ℕ)) → EveryRecord CaptureRecord records → EndOrMark (concat records)
starts [] e = file_end
starts (r ∷ rs) (c, e) = starts_with c (concat rs)

pub unchanged : (records : List (List ℕ)) → EveryRecord CaptureRecord records → salvaged (concat records) ≡ concat records
unchanged [] e = salvaged_none
unchanged (r ∷ rs) (c, e) = salvaged_record c (starts rs e) ∙ ap (λ (o : List ℕ). r ++ o) (unchanged rs e)

further : (o a b : List ℕ) → o ≡ a ++ b → (rs : List (List ℕ)) → EveryRecord (StandsIn b) rs → EveryRecord (StandsIn o) rs
further o a b e [] x = tt
further o a b e (r ∷ rs) (s, x) =
    (record { before = a ++ s.before; after = s.after; is = e ∙ ap (λ (q : List ℕ). a ++ q) s.is ∙ sym (append_assoc a s.before (r ++ s.after)) }, further o a b e rs x)

pub in_records : (file : List ℕ) → InRecords file
in_records = along InRecords (record { records = []; right = tt; joined = salvaged_none; found = tt }) copied skipped
  where
    copied : (o : List ℕ) → sound o ≡ true → InRecords (drop (record_length o) o) → InRecords o
    copied o t ih =
        let n = record_length o in
        record {
          records = take n o ∷ ih.records;
          right = (first_record o t, ih.right);
          joined = salvaged_sound o t ∙ ap (λ (q : List ℕ). take n o ++ q) ih.joined;
          found = (record { before = []; after = drop n o; is = sym (take-append-drop n o) }, further o (take n o) (drop n o) (sym (take-append-drop n o)) ih.records ih.found);
        }

    skipped : (x : ℕ) (o : List ℕ) → sound (x ∷ o) ≡ false → InRecords o → InRecords (x ∷ o)
    skipped x o t ih = record { records = ih.records; right = ih.right; joined = salvaged_skip x o t ∙ ih.joined; found = further (x ∷ o) (x ∷ []) o refl ih.records ih.found }

pub again : (file : List ℕ) → salvaged (salvaged file) ≡ salvaged file
again file = let p = in_records file in rw p.joined (unchanged p.records p.right)

-- ---- the run at a position
-- k octets at the front are skipped, and behind them is a sound record or the end
record RunIs (o : List ℕ) (k : ℕ) : Type 0 where
  pub inside : k ≤ length o
  pub none : (i : ℕ) → i < k → sound (drop i o) ≡ false
  pub stops : (drop k o ≡ []) ⊎ (sound (drop k o) ≡ true)

run_is : (o : List ℕ) → RunIs o (skipped_at o)
run_is = along (λ o. RunIs o (skipped_at o)) ended copied skipped
  where
    ended : RunIs [] (skipped_at [])
    ended = rw skipped_none (record { inside = omega arith; none = λ i l. absurd (omega arith); stops = inl refl })

    copied : (o : List ℕ) → sound o ≡ true → RunIs (drop (record_length o) o) (skipped_at (drop (record_length o) o)) → RunIs o (skipped_at o)
    copied o t ih = rw (skipped_sound o t) (record { inside = omega arith; none = λ i l. absurd (omega arith); stops = inr t })

    none_so : (x : ℕ) (o : List ℕ) (k : ℕ) → sound (x ∷ o) ≡ false → RunIs o k → (i : ℕ) → i < suc k → sound (drop i (x ∷ o)) ≡ false
    none_so x o k t ih zero l = t
    none_so x o k t ih (suc i) l = ih.none i (omega arith)

    skipped : (x : ℕ) (o : List ℕ) → sound (x ∷ o) ≡ false → RunIs o (skipped_at o) → RunIs (x ∷ o) (skipped_at (x ∷ o))
    skipped x o t ih = rw (skipped_skip x o t) (record { inside = omega (arith, ih.inside); none = none_so x o (skipped_at o) t ih; stops = ih.stops })

-- ---- a division of every file
record Some (at : ℕ) (file : List ℕ) : Type 0 where
  pub copied : List ℕ
  pub runs : List SkippedRun
  pub division : Divides at file copied runs

as_file : (at : ℕ) (o p c : List ℕ) (runs : List SkippedRun) → o ≡ p → Divides at p c runs → Divides at o c runs
as_file at o p c runs e d = rw e d

record_long : {r : List ℕ} → CaptureRecord r → 0 < length r
record_long (in_user_data own l) = omega arith
record_long (in_page own l) = omega arith

module _ (n at : ℕ) (x : ℕ) (o : List ℕ) (l : length (x ∷ o) ≤ suc n) (ih : (at : ℕ) (q : List ℕ) → length q ≤ n → Some at q) where
  with_record_lem : SoundAt (x ∷ o) → Some at (x ∷ o)
  with_record_lem s =
      let d = ih (at + length s.captured) s.rest (omega (arith, ap length s.front, length-append s.captured s.rest, record_long s.right)) in
      record {
        copied = s.captured ++ d.copied;
        runs = d.runs;
        division = as_file at (x ∷ o) (s.captured ++ s.rest) (s.captured ++ d.copied) d.runs s.front (copies at s.captured s.rest d.copied d.runs s.right s.behind d.division);
      }

  with_run : sound (x ∷ o) ≡ false → Some at (x ∷ o)
  with_run t =
      let k = skipped_at (x ∷ o) in
      let w = run_is (x ∷ o) in
      let s = take k (x ∷ o) in
      let rest = drop k (x ∷ o) in
      let some : 0 < k = omega (arith, skipped_skip x o t) in
      let size : length s ≡ k = length-take-le k (x ∷ o) w.inside in
      let whole : s ++ rest ≡ x ∷ o = take-append-drop k (x ∷ o) in
      let d = ih (at + length s) rest (omega (arith, size, ap length whole, length-append s rest)) in
      record {
        copied = d.copied;
        runs = run_of at (length s) ∷ d.runs;
        division =
            as_file at (x ∷ o) (s ++ rest) d.copied (run_of at (length s) ∷ d.runs) (sym whole)
            (skips at s rest d.copied d.runs (omega arith) (λ i m u. clash (sound (drop i (x ∷ o))) (sound_so (drop i (x ∷ o)) (rw whole at u)) (w.none i (omega arith)))
            (⊎_elim (λ e. inl e) (λ u. inr (sound_only_so rest u)) w.stops) d.division);
      }

divide_one : (n at : ℕ) (o : List ℕ) → length o ≤ suc n → ((at : ℕ) (q : List ℕ) → length q ≤ n → Some at q) → Some at o
divide_one n at [] l ih = record { copied = []; runs = []; division = ends at }
divide_one n at (x ∷ o) l ih = by_test (sound (x ∷ o)) (λ t. with_record_lem n at x o l ih (sound_only_so (x ∷ o) t)) (with_run n at x o l ih)

some_division : (n at : ℕ) (o : List ℕ) → length o ≤ n → Some at o
some_division zero at [] l = record { copied = []; runs = []; division = ends at }
some_division zero at (x ∷ o) l = absurd (omega arith)
some_division (suc n) at o l = divide_one n at o l (some_division n)

-- ---- each division is that of the rules
skip_exact : (s rest : List ℕ) → ((i : ℕ) → i < length s → sound (drop i (s ++ rest)) ≡ false) → skipped_at rest ≡ 0
    → (skipped_at (s ++ rest) ≡ length s) × (salvaged (s ++ rest) ≡ salvaged rest)
skip_exact [] rest u z = (z, refl)
skip_exact (x ∷ s) rest u z =
    let t = u 0 (omega arith) in
    let (a, b) = skip_exact s rest (λ i l. u (suc i) (omega arith)) z in
    (skipped_skip x (s ++ rest) t ∙ ap suc a, salvaged_skip x (s ++ rest) t ∙ b)

listed_same : {file : List ℕ} {b : ℕ} {runs : List SkippedRun} (a : ℕ) → next_run file a ≡ next_run file b → Listed file b runs → Listed file a runs
listed_same a e (no_more b z) = no_more a (rw e z)
listed_same {file} a e (one_more b runs s l) = rw (← e) (one_more a runs (rw e s) (rw e l))

record Ruled (at : ℕ) (o c : List ℕ) (runs : List SkippedRun) : Type 0 where
  pub copied : c ≡ salvaged o
  pub listed : (file : List ℕ) → o ≡ drop at file → Listed file at runs

behind : (file : List ℕ) (at : ℕ) (r rest : List ℕ) → r ++ rest ≡ drop at file → rest ≡ drop (at + length r) file
behind file at r rest e = sym (drop-append_seam r rest) ∙ ap (λ (q : List ℕ). drop (length r) q) e ∙ drop-drop (length r) at file

only_ended : (at : ℕ) → Ruled at [] [] []
only_ended at = record { copied = sym salvaged_none; listed = λ file e. no_more at (ap (λ (r : SkippedRun). r.count) (run_here file at (rw (← e) unsound_none)) ∙ rw (← e) skipped_none) }

only_copied : (at : ℕ) (r rest c : List ℕ) (runs : List SkippedRun) → CaptureRecord r → EndOrMark rest → Ruled (at + length r) rest c runs → Ruled at (r ++ rest) (r ++ c) runs
only_copied at r rest c runs right mark ih = record {
  copied = ap (λ (q : List ℕ). r ++ q) ih.copied ∙ sym (salvaged_record right mark);
  listed = λ file e. listed_same at (same file e) (ih.listed file (behind file at r rest e));
}
  where
    same : (file : List ℕ) → r ++ rest ≡ drop at file → next_run file at ≡ next_run file (at + length r)
    same file e = run_sound file at (rw (← e) (sound_before right mark)) ∙ rw (← e, (record_head_lem right rest).1)

only_skipped : (at : ℕ) (s rest c : List ℕ) (runs : List SkippedRun) → 0 < length s → ((i : ℕ) → i < length s → SoundAt (drop i (s ++ rest)) → ⊥)
    → (rest ≡ []) ⊎ SoundAt rest → Ruled (at + length s) rest c runs → Ruled at (s ++ rest) c (run_of at (length s) ∷ runs)
only_skipped at s rest c runs l none stops ih = record {
  copied = ih.copied ∙ sym exact.1;
  listed = λ file e. rw (← run file e) (one_more at runs (rw (run file e) (λ z. omega arith)) (rw (run file e) (ih.listed file (behind file at s rest e))));
}
  where
    exact : (skipped_at (s ++ rest) ≡ length s) × (salvaged (s ++ rest) ≡ salvaged rest)
    exact = skip_exact s rest (λ i m. unsound_so (drop i (s ++ rest)) (none i m)) (⊎_elim (λ e. rw e skipped_none) (λ w. skipped_sound rest (sound_so rest w)) stops)

    run : (file : List ℕ) → s ++ rest ≡ drop at file → next_run file at ≡ run_of at (length s)
    run file e = run_here file at (rw (← e) (unsound_so (s ++ rest) (none 0 l))) ∙ rw (← e, exact.0)

only : {at : ℕ} {o c : List ℕ} {runs : List SkippedRun} → Divides at o c runs → Ruled at o c runs
only (ends at) = only_ended at
only (copies at r rest c runs right mark d) = only_copied at r rest c runs right mark (only d)
only (skips at s rest c runs l none stops d) = only_skipped at s rest c runs l none stops (only d)

make_up : {at : ℕ} {o c : List ℕ} {runs : List SkippedRun} → Divides at o c runs → length c + octets_skipped runs ≡ length o
make_up (ends at) = refl
make_up (copies at r rest c runs right mark d) = omega (arith, length-append r rest, length-append r c, make_up d)
make_up (skips at s rest c runs l none stops d) = omega (arith, length-append s rest, make_up d)

pub divided : (file : List ℕ) → Divided file
divided file =
    let d = some_division (length file) 0 file (omega arith) in
    let r = only d.division in
    let e : Divides 0 file (salvaged file) d.runs = rw (← r.copied) d.division in
    record { runs = d.runs; listed = r.listed file refl; division = e; makes_up = make_up e }

pub only_so : (file copied : List ℕ) (runs : List SkippedRun) → Divides 0 file copied runs → OnlySo file copied runs
only_so file copied runs d = let r = only d in record { copied_octets = r.copied; listed = r.listed file refl }

-- ---- the calls
pub from_position : FromPosition
unfolding next_run
from_position file at = rw zero-add

alone_record : (o : List ℕ) → sound_alone o ≡ true → CaptureRecord o
alone_record o e =
    let (b, l) = both (begins_right o) (eqb (length o) (record_length o)) e in
    let m : length o ≡ record_length o = eqb-true (length o) (record_length o) l in
    rw (take_all (record_length o) o (omega arith)) at (record_found o b (omega arith))

pub by_itself : ByItself
unfolding record_in
by_itself = record {
  user_data_lem = λ own l. rw (le-leb (length own) 140 l, eq-eqb (suc (suc (suc (suc (length own))))) (4 + length own) (omega arith));
  page = λ own e. rw (eq-eqb (suc (suc (suc (suc (length own))))) 92 (omega arith));
  other = λ o n. by_test (sound_alone o) (λ t. absurd (n (alone_record o t))) (λ t. rw t);
}

pub salvages_or_refuses : (file output : List ℕ) → SalvagesOrRefuses file output
unfolding salvaging
salvages_or_refuses file output = record {
  twenty_four = λ l. rw (lt-ltb most_capture (length file) l);
  one = λ l n. rw (le-ltb most_capture (length file) l, ne_eqb (length output) (length file) n);
  given = λ l e. rw (le-ltb most_capture (length file) l, eq-eqb (length output) (length file) e);
}

-- ---- the examples, by computing
examples_right : EveryCapture capture_examples
unfolding sound fates chosen leading next_run
examples_right = ((refl, refl), ((refl, refl), ((refl, refl), ((refl, refl), ((refl, refl), ((refl, refl), ((refl, refl), ((refl, refl), ((refl, refl), ((refl, refl), ((refl, refl), ((refl, refl), ((refl, refl), ((refl, refl), ((refl, refl), ((refl, refl), ((refl, refl), ((refl, refl), ((refl, refl), ((refl, refl), ((refl, refl), ((refl, refl), ((refl, refl), ((refl, refl), tt))))))))))))))))))))))))

pub salvage_right : Salvage
salvage_right = record {
  sound_so = sound_so;
  sound_only_so = sound_only_so;
  divided = divided;
  only_so = only_so;
  unchanged = unchanged;
  again = again;
  in_records = in_records;
  from_position = from_position;
  by_itself = by_itself;
  salvages_or_refuses = salvages_or_refuses;
  examples = examples_right;
}
