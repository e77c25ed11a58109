-- Laws of what `Captures.antt` defines: how reading goes on behind a sound record and behind an octet that is skipped, and an induction along it.
use Rattle.std.specs.Prelude.{ℕ, zero, suc, ◌+◌, ◌-◌, ◌≤◌, ◌<◌, ◌≡◌, refl, Bool, true, false, ◌||◌, List, [], ◌∷◌, ◌++◌, length, take, drop, replicate, eqb}
use Rattle.std.proofs.Common.{ap, arith, add-zero, add_assoc, length-drop, drop-drop, eqb-true}
use Rattle.std.proofs.lemmas.List.{length-replicate}
use Rattle.std.proofs.Math.Seq.{drop-append-add}
use Rattle.octets.specs.Tests.{clash, both, by_test}
use Rattle.types.specs.declared.SkippedRun.{SkippedRun}
use Rattle.capture.specs.Captures.{has_mark, record_length, begins_right, sound, fates, chosen, salvaged, leading, next_run}

-- ---- what the inner calls promise
-- at the front a record is sound, and has n octets, which are there
pub record SoundRecord (o : List ℕ) (n : ℕ) : Type 0 where
  pub sound : sound o ≡ true
  pub long : n ≡ record_length o
  pub inside : n ≤ length o

-- how many octets at the front are skipped
abbrev pub skipped_at : List ℕ → ℕ
skipped_at o = leading false (fates 0 o)

-- the run that begins at a position
abbrev pub run_at : List ℕ → ℕ → SkippedRun
run_at file at = record { first = at; count = skipped_at (drop at file); next = at + skipped_at (drop at file) }

-- ---- a sound record is inside the file
pub marked_long : (o : List ℕ) → has_mark o ≡ true → 2 ≤ length o
marked_long [] e = absurd (clash false e refl)
marked_long (x ∷ []) e = absurd (clash false (both (eqb x 0xA5) false e).1 refl)
marked_long (x ∷ y ∷ o) e = omega arith

pub sound_inside : (o : List ℕ) → sound o ≡ true → record_length o ≤ length o
unfolding sound
sound_inside o e =
    let n = record_length o in
    let f = (both (begins_right o) (eqb (length o) n || has_mark (drop n o)) e).1 in
    by_test (eqb (length o) n) (λ t. omega (arith, eqb-true (length o) n t))
    (λ t. let m : has_mark (drop n o) ≡ true = rw t at f in omega (arith, length-drop n o, marked_long (drop n o) m))

-- ---- how reading goes on
fates_left : (n : ℕ) (o : List ℕ) → n ≤ length o → fates n o ≡ replicate n true ++ fates 0 (drop n o)
unfolding fates
fates_left zero o l = refl
fates_left (suc n) [] l = absurd (omega arith)
fates_left (suc n) (x ∷ o) l = ap (λ (f : List Bool). true ∷ f) (fates_left n o (omega arith))

-- behind a sound record
pub fates_sound : (o : List ℕ) → sound o ≡ true → fates 0 o ≡ replicate (record_length o) true ++ fates 0 (drop (record_length o) o)
unfolding fates sound
fates_sound [] e = absurd (clash false e refl)
fates_sound (x ∷ o) e = rw e (go (record_length (x ∷ o) - 1) (omega arith))
  where
    go : (m : ℕ) → record_length (x ∷ o) ≡ suc m → true ∷ fates m o ≡ replicate (record_length (x ∷ o)) true ++ fates 0 (drop (record_length (x ∷ o)) (x ∷ o))
    go m t = rw t (ap (λ (f : List Bool). true ∷ f) (fates_left m o (omega (arith, sound_inside (x ∷ o) e))))

-- behind an octet that is skipped
pub fates_skip : (x : ℕ) (o : List ℕ) → sound (x ∷ o) ≡ false → fates 0 (x ∷ o) ≡ false ∷ fates 0 o
unfolding fates
fates_skip x o e = rw e

-- ---- what is copied
chosen_many : (n : ℕ) (o : List ℕ) (f : List Bool) → n ≤ length o → chosen (replicate n true ++ f) o ≡ take n o ++ chosen f (drop n o)
unfolding chosen
chosen_many zero o f l = refl
chosen_many (suc n) [] f l = absurd (omega arith)
chosen_many (suc n) (x ∷ o) f l = ap (λ (q : List ℕ). x ∷ q) (chosen_many n o f (omega arith))

pub salvaged_sound : (o : List ℕ) → sound o ≡ true → salvaged o ≡ take (record_length o) o ++ salvaged (drop (record_length o) o)
salvaged_sound o e = rw (fates_sound o e) (chosen_many (record_length o) o (fates 0 (drop (record_length o) o)) (sound_inside o e))

pub salvaged_skip : (x : ℕ) (o : List ℕ) → sound (x ∷ o) ≡ false → salvaged (x ∷ o) ≡ salvaged o
unfolding chosen
salvaged_skip x o e = rw (fates_skip x o e)

pub salvaged_none : salvaged [] ≡ []
unfolding fates chosen
salvaged_none = refl

-- ---- what is skipped
leading_many : (n : ℕ) (f : List Bool) → leading true (replicate n true ++ f) ≡ n + leading true f
unfolding leading
leading_many zero f = omega arith
leading_many (suc n) f = omega (arith, leading_many n f)

drop_many : (n k : ℕ) (f : List Bool) → drop (n + k) (replicate n true ++ f) ≡ drop k f
drop_many n k f = rw (length-replicate n true) at (drop-append-add (replicate n true) f k)

pub skipped_none : skipped_at [] ≡ 0
unfolding fates leading
skipped_none = refl

pub skipped_sound : (o : List ℕ) → sound o ≡ true → skipped_at o ≡ 0
unfolding leading
skipped_sound o e = rw (fates_sound o e) (go (record_length o) (omega arith))
  where
    go : (n : ℕ) → 0 < n → leading false (replicate n true ++ fates 0 (drop (record_length o) o)) ≡ 0
    go zero l = absurd (omega arith)
    go (suc n) l = refl

pub skipped_skip : (x : ℕ) (o : List ℕ) → sound (x ∷ o) ≡ false → skipped_at (x ∷ o) ≡ suc (skipped_at o)
unfolding leading
skipped_skip x o e = rw (fates_skip x o e)

none_before : (o : List ℕ) → sound o ≡ false → leading true (fates 0 o) ≡ 0
unfolding fates leading
none_before [] e = refl
none_before (x ∷ o) e = rw (fates_skip x o e)

-- the run from a position on: behind a sound record it is the same; if no record is sound there, it begins there
pub run_sound : (file : List ℕ) (at : ℕ) → sound (drop at file) ≡ true → next_run file at ≡ next_run file (at + record_length (drop at file))
unfolding next_run
run_sound file at e =
    let n = record_length (drop at file) in
    let f = fates 0 (drop (at + n) file) in
    let g : fates 0 (drop at file) ≡ replicate n true ++ f = rw drop-drop at (fates_sound (drop at file) e) in
    rw (g, leading_many n f, drop_many n (leading true f) f, ← add_assoc at n (leading true f))

pub run_here : (file : List ℕ) (at : ℕ) → sound (drop at file) ≡ false → next_run file at ≡ run_at file at
unfolding next_run
run_here file at e = rw (none_before (drop at file) e, add-zero at)

-- ---- an induction along the file
pub unsound_none : sound [] ≡ false
unfolding sound
unsound_none = refl

module _ (P : List ℕ → Type 0) (ends : P []) (copies : (o : List ℕ) → sound o ≡ true → P (drop (record_length o) o) → P o)
    (skips : (x : ℕ) (o : List ℕ) → sound (x ∷ o) ≡ false → P o → P (x ∷ o)) where
  one : (n : ℕ) (o : List ℕ) → length o ≤ suc n → ((q : List ℕ) → length q ≤ n → P q) → P o
  one n [] l ih = ends
  one n (x ∷ o) l ih =
      by_test (sound (x ∷ o))
      (λ t. copies (x ∷ o) t (ih (drop (record_length (x ∷ o)) (x ∷ o)) (omega (arith, length-drop (record_length (x ∷ o)) (x ∷ o)))))
      (λ t. skips x o t (ih o (omega arith)))

  bounded : (n : ℕ) (o : List ℕ) → length o ≤ n → P o
  bounded zero [] l = ends
  bounded zero (x ∷ o) l = absurd (omega arith)
  bounded (suc n) o l = one n o l (bounded n)

  pub along : (o : List ℕ) → P o
  along o = bounded (length o) o (omega arith)
