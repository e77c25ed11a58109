-- Laws of the refusals of fields, which what writes them cites, whatever carries them.
use Rattle.std.specs.Prelude.{ℕ, ◌≡◌, refl, Bool, true, false, not, get_or, eqb}
use Rattle.std.proofs.Common.{arith, eqb-true}
use Rattle.types.specs.declared.Kind.{Kind}
use Rattle.types.specs.declared.Kind.TheVariants.{Command, Response}
use Rattle.types.specs.Refusals.{Outcome, gives, refuse◌when◌otherwise◌}
use Rattle.packet.specs.Packets.{Fields, behind, is_ciphered, against_spi, against_check, misfit, fitting}
use Rattle.packet.specs.Judging.{and_then}
use Rattle.build.specs.Within.{against_octet, ruled}

-- nothing refuses, or something does and what would follow does not count
pub ruled_then : {A : Type 0} (w n : ℕ) (a m u l : Bool) (o : Outcome A) → ruled w n a m u l o ≡ and_then (ruled w n a m u l (gives 0)) o
ruled_then w n a m u l o = go (eqb n w) a m u l
  where
    go : (e a m u l : Bool)
        → (refuse 1 when not e otherwise refuse 10 when a otherwise refuse 11 when m otherwise refuse 15 when u otherwise refuse 12 when l otherwise o)
        ≡ and_then (refuse 1 when not e otherwise refuse 10 when a otherwise refuse 11 when m otherwise refuse 15 when u otherwise refuse 12 when l otherwise gives 0) o
    go false a m u l = refl
    go true true m u l = refl
    go true false true u l = refl
    go true false false true l = refl
    go true false false false true = refl
    go true false false false false = refl

pub allowed : (w n : ℕ) (a m u l : Bool) → ◌≡◌ {A = Outcome ℕ} (gives 0) (ruled w n a m u l (gives 0)) → (n ≡ w) × (l ≡ false)
allowed w n a m u l e = go (eqb n w) a m u l refl refl e
  where
    go : (b a m u l' : Bool) → eqb n w ≡ b → l ≡ l'
        → ◌≡◌ {A = Outcome ℕ} (gives 0) (refuse 1 when not b otherwise refuse 10 when a otherwise refuse 11 when m otherwise refuse 15 when u otherwise refuse 12 when l' otherwise gives 0)
        → (n ≡ w) × (l ≡ false)
    go false a m u l' p q e = let z : ◌≡◌ {A = ℕ} 0 1 = cc in absurd (omega arith)
    go true true m u l' p q e = let z : ◌≡◌ {A = ℕ} 0 1 = cc in absurd (omega arith)
    go true false true u l' p q e = let z : ◌≡◌ {A = ℕ} 0 1 = cc in absurd (omega arith)
    go true false false true l' p q e = let z : ◌≡◌ {A = ℕ} 0 1 = cc in absurd (omega arith)
    go true false false false true p q e = let z : ◌≡◌ {A = ℕ} 0 1 = cc in absurd (omega arith)
    go true false false false false p q e = (eqb-true n w p, q)

-- the tests are those of the fields
pub against_is : (k : Kind) (x : Fields) → against_spi k x ≡ against_octet k (get_or (behind x) 0 0) (is_ciphered x)
against_is Command x = refl
against_is Response x = refl

pub ruled_fitting : {A : Type 0} (k : Kind) (x : Fields) (w n : ℕ) (a m u l : Bool) (o : Outcome A) → against_spi k x ≡ a → misfit k x ≡ m → against_check k x ≡ u
    → ruled w n a m u l o ≡ (refuse 1 when not (eqb n w) otherwise fitting k x l o)
ruled_fitting k x w n a m u l o e f g = rw (e, f, g)
