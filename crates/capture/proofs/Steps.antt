-- What the proofs of `capture` cite: one law for each return, call and turn of a loop, over plain variables.
use Rattle.std.specs.declared.option.Option as option
use Rattle.std.specs.declared.option.Option.TheVariants.{Some, None}
use Rattle.std.specs.Option.{MatchOption, is_some}
use Prim.Native.Nat.{ℕ, suc, ◌+◌, ◌-◌, ◌≤◌, ◌<◌}
use mathlib.Core.Path.{◌≡◌, refl, sym, ap, ◌∙◌}
use mathlib.Core.Bool.{Bool, true, false, not, ◌||◌, and-false}
use mathlib.Core.List.{List, [], ◌∷◌, ◌++◌, append_assoc, append-nil}
use native.Mathlib.Omega.{arith}
use native.Mathlib.Nat.{add-zero}
use native.Mathlib.Numerals.{add-one}
use lib.ListN.{length, get_or, take, drop, length-drop, length-append, drop_of_length-le}
use lib.Seq.{drop-drop, drop-cons, length-take-le, take_all}
use lib.Dec.{eqb}
use borrow.Author.Rules.{rules}
use borrow.Author.Tests.{eqb-true, not-true, not-false, lt-ltb, le-ltb, eq-eqb, ne_eqb}
use Rattle.octets.specs.Tests.{clash, both, both_hold, by_test}
use Rattle.octets.specs.Octets.{placed, after_put}
use Rattle.octets.specs.Laws.{placed_start, put_behind}
use Rattle.types.specs.Refusals.{lent, refused, gives, writes}
use Rattle.types.specs.declared.Captured.TheVariants.{UserData, Page}
use Rattle.capture.specs.Captures.{has_mark, record_length, right_head, begins_right, sound, salvaged, next_run, salvaging, sound_alone, record_in}
use Rattle.capture.specs.Laws.{SoundRecord, skipped_at, run_at, sound_inside, salvaged_sound, salvaged_skip, salvaged_none, skipped_none, skipped_sound, skipped_skip, run_sound, run_here, unsound_none}

-- ---- a sound record, by the tests that `sound_record` makes
or_true : (a b : Bool) → b ≡ true → a || b ≡ true
or_true true b e = refl
or_true false b e = e

never_sound : (q : List ℕ) → (sound q ≡ true → ⊥) → sound q ≡ false
never_sound q n = by_test (sound q) (λ t. absurd (n t)) (λ t. t)

module _ (q : List ℕ) where
  pub sound_short : length q < 4 → sound q ≡ false
  sound_short l = never_sound q (λ t. omega (arith, sound_inside q t))

  module _ (m : Bool) (mark : m ≡ has_mark q) where
    pub sound_unmarked : not m ≡ true → sound q ≡ false
    unfolding sound
    sound_unmarked e = rw (← mark, not-true m e)

    module _ (h : Bool) (head : h ≡ right_head (get_or q 2 0) (get_or q 3 0)) where
      pub sound_headless : not h ≡ true → sound q ≡ false
      unfolding sound
      sound_headless e = rw (← head, not-true h e, and-false)

      module _ (own n : ℕ) (o : own ≡ get_or q 3 0) (is : n ≡ 4 + own) where
        pub sound_over : length q < n → sound q ≡ false
        sound_over l = never_sound q (λ t. omega (arith, sound_inside q t))

        module _ (begun : not m ≡ false) (headed : not h ≡ false) (inside : n ≤ length q) (b : List ℕ) (behind : b ≡ take (length q - n) (drop n q)) where
          rest : b ≡ drop n q
          rest = behind ∙ take_all (length q - n) (drop n q) (simp length-drop (omega arith))

          length_told : record_length q ≡ n
          length_told = omega arith

          told : sound q ≡ (eqb (length q) n || has_mark b)
          unfolding sound
          told = rw (length_told, ← mark, not-false m begun, ← head, not-false h headed, rest)

          pub sound_last : eqb (length b) 0 ≡ true → SoundRecord q n
          sound_last z =
              let l : length q ≡ n = omega (arith, ap length rest, length-drop n q, eqb-true (length b) 0 z) in
              record { sound = told ∙ rw (eq-eqb (length q) n l); long = sym length_told; inside = inside }

          module _ (e : Bool) (end : e ≡ has_mark b) where
            pub sound_marked : e ≡ true → SoundRecord q n
            sound_marked t = record { sound = told ∙ or_true (eqb (length q) n) (has_mark b) (sym end ∙ t); long = sym length_told; inside = inside }

            pub sound_ends_not : (eqb (length b) 0 ≡ false) → e ≡ false → sound q ≡ false
            sound_ends_not z t =
                told ∙ rw (← end, t, ne_eqb (length q) n (λ l. clash (eqb (length b) 0) (eq-eqb (length b) 0 (omega (arith, ap length rest, length-drop n q))) z))

-- the octets from a position on that is not the end
next_octet : (file : List ℕ) (at : ℕ) → at < length file → drop at file ≡ get_or file at 0 ∷ drop (at + 1) file
next_octet file at l = rw add-one (drop-cons file at 0 l)

next_unsound : (file : List ℕ) (at : ℕ) → at < length file → sound (drop at file) ≡ false → sound (get_or file at 0 ∷ drop (at + 1) file) ≡ false
next_unsound file at l z = rw (← next_octet file at l) z

none_left : (file : List ℕ) (at : ℕ) → length file ≤ at → drop at file ≡ []
none_left file at l = drop_of_length-le file l

-- what is left of the file at a position, as the code takes it
pub left_is : (file : List ℕ) (at : ℕ) (q : List ℕ) → q ≡ take (length file - at) (drop at file) → q ≡ drop at file
left_is file at q e = e ∙ take_all (length file - at) (drop at file) (simp length-drop (omega arith))

-- ---- the runs: from the position reached on, the run is that from the start on
module _ (file : List ℕ) (from at : ℕ) (same : next_run file from ≡ next_run file at) where
  pub run_begins : sound (drop at file) ≡ false → next_run file from ≡ run_at file at
  run_begins z = same ∙ run_here file at z

  pub run_on : (n : ℕ) → SoundRecord (drop at file) n → next_run file from ≡ next_run file (at + n)
  run_on n s = same ∙ run_sound file at s.sound ∙ rw s.long

pub record_inside : (file : List ℕ) (at n : ℕ) → at ≤ length file → SoundRecord (drop at file) n → at + n ≤ length file
record_inside file at n l s = omega (arith, s.inside, length-drop at file)

pub record_some : (o : List ℕ) (n : ℕ) → SoundRecord o n → 0 < n
record_some o n s = omega (arith, s.long)

-- whether a record was read says whether one is sound
read_sound : (q : List ℕ) (r : option.Option ℕ) → MatchOption r (sound q ≡ false) (SoundRecord q) → sound q ≡ is_some r
read_sound q None e = e
read_sound q (Some n) s = s.sound

-- the run ends where it would have ended from the start on
abbrev pub Skipping : (file : List ℕ) (from at : ℕ) → Type 0
Skipping file from at = at + skipped_at (drop at file) ≡ from + skipped_at (drop from file)

module _ (file : List ℕ) (from at : ℕ) (u : Skipping file from at) where
  pub skip_ends : length file ≤ at → at ≡ from + skipped_at (drop from file)
  skip_ends l = let z : skipped_at (drop at file) ≡ 0 = rw (none_left file at l) skipped_none in omega arith

  module _ (r : option.Option ℕ) (read : MatchOption r (sound (drop at file) ≡ false) (SoundRecord (drop at file))) (b : Bool) (some : b ≡ is_some r) where
    pub skip_stops : b ≡ true → at ≡ from + skipped_at (drop from file)
    skip_stops t = omega (arith, skipped_sound (drop at file) (read_sound (drop at file) r read ∙ sym some ∙ t))

    pub skip_on : at < length file → b ≡ false → Skipping file from (at + 1)
    skip_on l t =
        let z : sound (drop at file) ≡ false = read_sound (drop at file) r read ∙ sym some ∙ t in
        let e : skipped_at (drop at file) ≡ suc (skipped_at (drop (at + 1) file)) =
        rw (next_octet file at l) (skipped_skip (get_or file at 0) (drop (at + 1) file) (next_unsound file at l z)) in omega arith

pub run_past : (file : List ℕ) (from : ℕ) → length file < from → record { first = from; count = 0; next = from } ≡ next_run file from
run_past file from l = sym (run_here file from (rw e unsound_none) ∙ rw (e, skipped_none, add-zero from))
  where
    e : drop from file ≡ []
    e = none_left file from (omega arith)

pub run_told : (file : List ℕ) (from first next : ℕ) → next_run file from ≡ run_at file first → next ≡ first + skipped_at (drop first file)
    → record { first = first; count = next - first; next = next } ≡ next_run file from
run_told file from first next e l =
    let m : next - first ≡ skipped_at (drop first file) = omega arith in sym (e ∙ rw (← l, m))

-- ---- copying
-- what was copied so far, and what is copied of the rest, is what is copied of the file
pub record Copied (file output₀ output : List ℕ) (at end : ℕ) : Type 0 where
  pub front : List ℕ
  pub is : output ≡ placed output₀ 0 front
  pub size : end ≡ length front
  pub on : front ++ salvaged (drop at file) ≡ salvaged file
  pub inside : at ≤ length file
  pub before : end ≤ at
  pub long : length output₀ ≡ length file
  pub kept : length output ≡ length output₀

pub copy_starts : (file output : List ℕ) → length output ≡ length file → Copied file output output 0 0
copy_starts file output l = record {
  front = [];
  is = sym (placed_start output []);
  size = refl;
  on = refl;
  inside = omega arith;
  before = omega arith;
  long = l;
  kept = refl;
}

module _ (file output₀ output : List ℕ) (at end : ℕ) (u : Copied file output₀ output at end) where
  pub copy_ends : length file ≤ at → lent (gives end) output ≡ writes (gives (salvaged file)) output₀
  copy_ends l =
      let all : u.front ≡ salvaged file = sym (append-nil u.front) ∙ rw (none_left file at l, salvaged_none) at u.on in
      rw (u.size, u.is, placed_start, all)

  pub copy_skips : at < length file → sound (drop at file) ≡ false → Copied file output₀ output (at + 1) end
  copy_skips l z =
      let e : salvaged (drop at file) ≡ salvaged (drop (at + 1) file) =
      rw (next_octet file at l) (salvaged_skip (get_or file at 0) (drop (at + 1) file) (next_unsound file at l z)) in
      record {
        front = u.front;
        is = u.is;
        size = u.size;
        on = rw (← e) u.on;
        inside = omega arith;
        before = omega (arith, u.before);
        long = u.long;
        kept = u.kept;
      }

  pub copy_copies : (n : ℕ) → SoundRecord (drop at file) n → (after : List ℕ)
      → after ≡ after_put output end (take (at + n - at) (drop at file)) → length after ≡ length output
      → Copied file output₀ after (at + n) (end + n)
  copy_copies n s after e k =
      let part = take (at + n - at) (drop at file) in
      let m : at + n - at ≡ n = omega arith in
      let l : at + n ≤ length file = omega (arith, s.inside, u.inside, length-drop at file) in
      let size : length part ≡ n = rw m (length-take-le n (drop at file) (omega (arith, length-drop at file))) in
      let on : salvaged (drop at file) ≡ part ++ salvaged (drop (at + n) file) = rw m (rw (← s.long, drop-drop) at (salvaged_sound (drop at file) s.sound)) in
      record {
        front = u.front ++ part;
        is = put_behind output₀ u.front part output after end u.is u.size (omega (arith, size, u.size, u.before, u.long)) e;
        size = rw length-append (omega (arith, size, u.size));
        on = rw (append_assoc, ← on) u.on;
        inside = l;
        before = omega (arith, u.before);
        long = u.long;
        kept = k ∙ u.kept;
      }

-- ---- the call
module _ (file output : List ℕ) where
  pub salvage_long : 65536 < length file → lent (refused 24) output ≡ salvaging file output
  unfolding salvaging
  salvage_long l = rw (lt-ltb 65536 (length file) l)

  module _ (short : length file ≤ 65536) where
    pub salvage_unfit : (length output ≡ length file → ⊥) → lent (refused 1) output ≡ salvaging file output
    unfolding salvaging
    salvage_unfit n = rw (le-ltb 65536 (length file) short, ne_eqb (length output) (length file) n)

    pub salvage_copies : (n : ℕ) (after : List ℕ) → length output ≡ length file → lent (gives n) after ≡ writes (gives (salvaged file)) output
        → lent (gives n) after ≡ salvaging file output
    unfolding salvaging
    salvage_copies n after l e = e ∙ rw (le-ltb 65536 (length file) short, eq-eqb (length output) (length file) l)

-- ---- one record by itself
alone_sound : (o : List ℕ) → sound_alone o ≡ true → (sound o ≡ true) × (length o ≡ record_length o)
unfolding sound
alone_sound o e =
    let (b, l) = both (begins_right o) (eqb (length o) (record_length o)) e in (rw (b, l), eqb-true (length o) (record_length o) l)

pub captured_unsound : (o : List ℕ) → sound o ≡ false → None ≡ record_in o
unfolding record_in
captured_unsound o e = rw (by_test (sound_alone o) (λ t. absurd (clash (sound o) (alone_sound o t).0 e)) (λ t. t))

module _ (o : List ℕ) (n : ℕ) (s : SoundRecord o n) where
  not_alone : (n ≡ length o → ⊥) → sound_alone o ≡ false
  not_alone d = by_test (sound_alone o) (λ t. absurd (d (omega (arith, s.long, (alone_sound o t).1)))) (λ t. t)

  pub captured_not : (n ≡ length o → ⊥) → None ≡ record_in o
  unfolding record_in
  captured_not d = rw (not_alone d)

  pub captured_long : 2 < length o
  captured_long = omega (arith, s.long, s.inside)

  module _ (all : n ≡ length o) where
    is_alone : sound_alone o ≡ true
    unfolding sound
    is_alone =
        let (b, e) = both (begins_right o) (eqb (length o) (record_length o) || has_mark (drop (record_length o) o)) s.sound in
        both_hold (begins_right o) (eqb (length o) (record_length o)) b (eq-eqb (length o) (record_length o) (omega (arith, s.long)))

    pub captured_data : get_or o 2 0 ≡ 1 → Some (UserData 4) ≡ record_in o
    unfolding record_in
    captured_data k = rw (is_alone, eq-eqb (get_or o 2 0) 1 k)

    pub captured_page : (get_or o 2 0 ≡ 1 → ⊥) → Some (Page 4) ≡ record_in o
    unfolding record_in
    captured_page k = rw (is_alone, ne_eqb (get_or o 2 0) 1 k)

pub ruleset steps = (
  rules,
  left_is,
  sound_short,
  sound_unmarked,
  sound_headless,
  sound_over,
  sound_last,
  sound_marked,
  sound_ends_not,
  run_begins,
  run_on,
  record_inside,
  record_some,
  skip_ends,
  skip_stops,
  skip_on,
  run_past,
  run_told,
  copy_starts,
  copy_ends,
  copy_skips,
  copy_copies,
  salvage_long,
  salvage_unfit,
  salvage_copies,
  captured_unsound,
  captured_not,
  captured_long,
  captured_data,
  captured_page,
)
