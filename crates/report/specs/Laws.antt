-- Laws of reporting, over the status that an announcement has: its octets, and which way a response goes, read off SPI bit by bit.
use Rattle.std.specs.Prelude.{ℕ, ◌+◌, ◌/◌, ◌%◌, ◌≤◌, ◌<◌, ◌≡◌, Bool, true, not, cond, ◌&&◌, ◌||◌, List, [], ◌∷◌, ◌++◌, length, eqb, leb}
use Rattle.std.proofs.Math.Path.{refl}
use Rattle.std.proofs.Math.Bool.{false}
use Rattle.std.proofs.Common.{append-nil, length-append, length-take, length-drop}
use native.Mathlib.Omega.{arith}
use borrow.Author.Tests.{eqb-true, eqb-false, leb-true, leb-false, le-ltb, eq-eqb, ne_eqb}
use Rattle.types.specs.declared.Kind.TheVariants.{Response}
use Rattle.types.specs.Refusals.{gives}
use Rattle.packet.specs.Packets.{most_octets, well_formed, packet_of}
use Rattle.packet.specs.Laws.{readable_formed}
use Rattle.report.specs.Reporting.{Going, nothing_goes, in_report, announced, submitted, asked, by_submit, least_report, most_report, report_of, status_of, before_status, announcing, going_out, known_edition, announced_by, reporting}

-- ---- the announcement
-- 00 0B 0A TAR CNTR PCNTR and the status: thirteen octets, with the header sixteen
module _ (status : ℕ) (p : List ℕ) (l : 12 ≤ length p) where
  fixed_long : length (before_status p ++ (status ∷ [])) ≡ 10
  fixed_long = simp (length-append, length-take, length-drop) (omega arith)

  pub announcing_octets : announcing status p ≡ 0x00 ∷ 0x0B ∷ 0x0A ∷ (before_status p ++ (status ∷ []))
  unfolding announcing packet_of
  announcing_octets = rw (append-nil (before_status p ++ (status ∷ [])), fixed_long)

  pub announcing_length : length (announcing status p) ≡ 13
  announcing_length = rw announcing_octets (omega (arith, fixed_long))

-- ---- which way a response goes
-- "00 nothing, 01 always, 10 only when the status is not 00"
pub data Asked (spi status : ℕ) : Type 0 where
  always : spi % 4 ≡ 1 → Asked spi status
  on_error : spi % 4 ≡ 2 → (status ≡ 0x00 → ⊥) → Asked spi status

pub data Unasked (spi status : ℕ) : Type 0 where
  never : spi % 4 ≡ 0 → Unasked spi status
  no_error : spi % 4 ≡ 2 → status ≡ 0x00 → Unasked spi status

-- By SPI and by length: of the 140 octets of a report three are the header's.
pub data Way (status spi capacity : ℕ) (p : List ℕ) : Going (List ℕ) → Type 0 where
  not_asked : Unasked spi (status_of p) → Way status spi capacity p nothing_goes
  for_submit : Asked spi (status_of p) → spi / 32 % 2 ≡ 1 → Way status spi capacity p submitted
  small : Asked spi (status_of p) → spi / 32 % 2 ≡ 0 → 3 + length p ≤ capacity → Way status spi capacity p (in_report (report_of p))
  too_large : Asked spi (status_of p) → spi / 32 % 2 ≡ 0 → capacity < 3 + length p
      → Way status spi capacity p (announced (report_of (announcing status p)))

module _ (spi status : ℕ) where
  is_asked : asked spi status ≡ true → Asked spi status
  is_asked e = go (eqb (spi % 4) 1) (eqb (spi % 4) 2) (eqb status 0x00) refl refl refl e
    where
      go : (a b c : Bool) → eqb (spi % 4) 1 ≡ a → eqb (spi % 4) 2 ≡ b → eqb status 0x00 ≡ c → a || (b && not c) ≡ true → Asked spi status
      go true b c p q r e = always (eqb-true (spi % 4) 1 p)
      go false true false p q r e = on_error (eqb-true (spi % 4) 2 q) (eqb-false status 0x00 r)
      go false true true p q r e = let z : ◌≡◌ {A = ℕ} 0 1 = cc in absurd (omega arith)
      go false false c p q r e = let z : ◌≡◌ {A = ℕ} 0 1 = cc in absurd (omega arith)

  is_unasked : (spi % 4 ≡ 3 → ⊥) → asked spi status ≡ false → Unasked spi status
  is_unasked n e = go (eqb (spi % 4) 1) (eqb (spi % 4) 2) (eqb status 0x00) refl refl refl e
    where
      four : (spi % 4 ≡ 1 → ⊥) → (spi % 4 ≡ 2 → ⊥) → spi % 4 ≡ 0
      four p q = omega arith

      go : (a b c : Bool) → eqb (spi % 4) 1 ≡ a → eqb (spi % 4) 2 ≡ b → eqb status 0x00 ≡ c → a || (b && not c) ≡ false → Unasked spi status
      go true b c p q r e = let z : ◌≡◌ {A = ℕ} 0 1 = cc in absurd (omega arith)
      go false true true p q r e = no_error (eqb-true (spi % 4) 2 q) (eqb-true status 0x00 r)
      go false true false p q r e = let z : ◌≡◌ {A = ℕ} 0 1 = cc in absurd (omega arith)
      go false false c p q r e = never (four (eqb-false (spi % 4) 1 p) (eqb-false (spi % 4) 2 q))

module _ (status spi capacity : ℕ) (p : List ℕ) (free : spi % 4 ≡ 3 → ⊥) where
  pub way_of : Way status spi capacity p (going_out status spi capacity p)
  unfolding going_out
  way_of = go (asked spi (status_of p)) (by_submit spi) (leb (length (report_of p)) capacity) refl refl refl
    where
      even : (spi / 32 % 2 ≡ 1 → ⊥) → spi / 32 % 2 ≡ 0
      even n = omega arith

      go : (a b c : Bool) → asked spi (status_of p) ≡ a → by_submit spi ≡ b → leb (length (report_of p)) capacity ≡ c
          → Way status spi capacity p (cond (not a) nothing_goes (cond b submitted (cond c (in_report (report_of p)) (announced (report_of (announcing status p))))))
      go false b c e f g = not_asked (is_unasked spi (status_of p) free e)
      go true true c e f g = for_submit (is_asked spi (status_of p) e) (eqb-true (spi / 32 % 2) 1 f)
      go true false true e f g =
          small (is_asked spi (status_of p) e) (even (eqb-false (spi / 32 % 2) 1 f)) (omega (arith, leb-true (length (report_of p)) capacity g))
      go true false false e f g =
          too_large (is_asked spi (status_of p) e) (even (eqb-false (spi / 32 % 2) 1 f)) (omega (arith, leb-false (length (report_of p)) capacity g))

  -- nothing is refused that is within its bounds
  pub reporting_gives : (edition size : ℕ) → known_edition edition ≡ true → announced_by edition ≡ status → size ≡ most_report → least_report ≤ capacity
      → capacity ≤ most_report → well_formed Response p ≡ true → length p ≤ most_octets
      → reporting edition spi capacity p size ≡ gives (going_out status spi capacity p)
  unfolding reporting
  reporting_gives edition size known by lent least most formed short =
      rw (eq-eqb size most_report lent, le-ltb capacity least_report least, le-ltb most_report capacity most, known, by, ne_eqb (spi % 4) 3 free)
      (readable_formed Response false p (gives (going_out status spi capacity p)) formed short refl)
