-- What the proofs of `report` cite: one law for each return or call, over plain variables.
use Rattle.std.specs.declared.result.Result.{Result}
use Rattle.std.specs.declared.result.Result.TheVariants.{Ok, Err}
use Prim.Native.Nat.{ℕ, ◌+◌, ◌/◌, ◌%◌, ◌≤◌, ◌<◌}
use mathlib.Core.Path.{◌≡◌, refl, sym, ap, ◌∙◌}
use mathlib.Core.Bool.{Bool, true, false, not}
use mathlib.Core.List.{List, [], ◌∷◌, ◌++◌}
use native.Mathlib.Omega.{arith}
use lib.ListN.{length, get_or, take, drop, length-take, length-drop}
use lib.Dec.{ltb}
use borrow.Author.Rules.{rules}
use borrow.Author.Tests.{ltb-false, eq-eqb, ne_eqb, le-leb, lt-leb, not-true, not-false}
use Rattle.octets.specs.Tests.{neither}
use Rattle.octets.specs.Octets.{placed, after_put}
use Rattle.octets.specs.Laws.{put_fits, put_behind, placed_start}
use Rattle.types.specs.declared.Kind.TheVariants.{Response}
use Rattle.types.specs.declared.Refusal.{Refusal}
use Rattle.types.specs.Refusals.{refused, gives, refuse◌when◌otherwise◌, refusal_number}
use Rattle.packet.specs.Packets.{chl, readable}
use Rattle.packet.specs.Laws.{PacketLengths}
use Rattle.packet.specs.Judging.{told_judged, judged_size, judged_readable, judged_refused}
use Rattle.packet.proofs.PacketLaws.{judged_formed}
use Rattle.report.specs.Reporting.{nothing_goes, in_report, announced, submitted, asked, reserved, no_capacity, report_of, before_status, announcing, going_out, reporting, Reported, reported, writes_report, write_report, known_edition, announced_by, announces_another, response_announces}
use Rattle.report.specs.Laws.{announcing_octets, announcing_length}

-- ---- writing
-- a run put at the start
at_start_lem : (d p x : List ℕ) → length p ≤ length d → x ≡ after_put d 0 p → x ≡ placed d 0 p
at_start_lem d p x l e = e ∙ put_fits d 0 p (omega arith)

pub report_put : (d p x y : List ℕ) → 3 + length p ≤ length d → x ≡ after_put d 0 (0x02 ∷ 0x71 ∷ 0x00 ∷ []) → y ≡ after_put x 3 p
    → y ≡ placed d 0 (report_of p)
report_put d p x y l e f =
    put_behind d (0x02 ∷ 0x71 ∷ 0x00 ∷ []) p x y 3 (at_start_lem d (0x02 ∷ 0x71 ∷ 0x00 ∷ []) x (omega arith) e) refl l f

module _ (status : ℕ) (p : List ℕ) (l : 13 ≤ length p) where
  pub announcement_long : 16 ≡ length (report_of (announcing status p))
  announcement_long = omega (arith, announcing_length status p (omega arith))

  pub announcement_put : (d x y z : List ℕ) → length d ≡ 140 → x ≡ after_put d 0 (0x02 ∷ 0x71 ∷ 0x00 ∷ 0x00 ∷ 0x0B ∷ 0x0A ∷ [])
      → y ≡ after_put x 6 (take 9 (drop 3 p)) → z ≡ after_put y 15 (status ∷ []) → z ≡ placed d 0 (report_of (announcing status p))
  announcement_put d x y z m e f g =
      let head : List ℕ = 0x02 ∷ 0x71 ∷ 0x00 ∷ 0x00 ∷ 0x0B ∷ 0x0A ∷ [] in
      let n : length (before_status p) ≡ 9 = simp (length-take, length-drop) (omega arith) in
      let u : x ≡ placed d 0 head = at_start_lem d head x (omega arith) e in
      let v : y ≡ placed d 0 (head ++ before_status p) = put_behind d head (before_status p) x y 6 u refl (omega arith) f in
      rw (announcing_octets status p (omega arith)) (put_behind d (head ++ before_status p) (status ∷ []) y z 15 v (omega arith) (omega arith) g)

-- ---- what goes out
module _ (status spi capacity : ℕ) (p d : List ℕ) where
  abbrev going : Reported
  going = writes_report (refuse 17 when reserved spi otherwise gives (going_out status spi capacity p)) d

  pub sends_refused : spi % 4 ≡ 3 → reported (refused 17) d ≡ going
  sends_refused e = rw (eq-eqb (spi % 4) 3 e)

  module _ (n : spi % 4 ≡ 3 → ⊥) (a : Bool) (e : a ≡ asked spi (get_or p 12 0)) where
    pub sends_nothing : not a ≡ true → reported (gives nothing_goes) d ≡ going
    unfolding going_out
    sends_nothing t = rw (ne_eqb (spi % 4) 3 n, ← e, not-true a t)

    module _ (t : not a ≡ false) where
      pub sends_submit : spi / 32 % 2 ≡ 1 → reported (gives submitted) d ≡ going
      unfolding going_out
      sends_submit s = rw (ne_eqb (spi % 4) 3 n, ← e, not-false a t, eq-eqb (spi / 32 % 2) 1 s)

      module _ (s : spi / 32 % 2 ≡ 1 → ⊥) (o : List ℕ) (r : ℕ) where
        pub sends_report : 3 + length p ≤ capacity → (r ≡ length (report_of p)) × (o ≡ placed d 0 (report_of p)) → reported (gives (in_report r)) o ≡ going
        unfolding going_out
        sends_report l w =
            rw (ne_eqb (spi % 4) 3 n, ← e, not-false a t, ne_eqb (spi / 32 % 2) 1 s, le-leb (length (report_of p)) capacity (omega arith), w.0, w.1)
            (ap (reported (gives (in_report (length (report_of p))))) (placed_start d (report_of p)))

        pub sends_announcement : capacity < 3 + length p
            → (r ≡ length (report_of (announcing status p))) × (o ≡ placed d 0 (report_of (announcing status p)))
            → reported (gives (announced r)) o ≡ going
        unfolding going_out
        sends_announcement l w =
            rw (ne_eqb (spi % 4) 3 n, ← e, not-false a t, ne_eqb (spi / 32 % 2) 1 s, lt-leb (length (report_of p)) capacity (omega arith), w.0, w.1)
            (ap (reported (gives (announced (length (report_of (announcing status p)))))) (placed_start d (report_of (announcing status p))))

-- ---- the edition
pub edition_old : (edition : ℕ) → edition ≡ 0 → 0x08 ≡ announced_by edition
edition_old edition e = rw (eq-eqb edition 0 e)

pub edition_other : (edition : ℕ) → (edition ≡ 0 → ⊥) → 0x0B ≡ announced_by edition
edition_other edition n = rw (ne_eqb edition 0 n)

-- ---- the answer
module _ (edition spi capacity : ℕ) (p d : List ℕ) where
  pub report_buffer : (length d ≡ 140 → ⊥) → reported (refused 1) d ≡ write_report edition spi capacity p d
  unfolding write_report reporting
  report_buffer n = rw (ne_eqb (length d) 140 n)

  module _ (l : length d ≡ 140) (c : Bool) (f : c ≡ no_capacity capacity) where
    pub report_capacity : c ≡ true → reported (refused 16) d ≡ write_report edition spi capacity p d
    unfolding write_report reporting
    report_capacity t = rw (eq-eqb (length d) 140 l, ← f, t)

    module _ (t : c ≡ false) where
      pub capacity_most : capacity ≤ 140
      capacity_most = ltb-false 140 capacity (neither (ltb capacity 16) (ltb 140 capacity) (sym f ∙ t)).1

      module _ (k : Bool) (g : k ≡ known_edition edition) where
        pub report_edition : not k ≡ true → reported (refused 20) d ≡ write_report edition spi capacity p d
        unfolding write_report reporting
        report_edition u = rw (eq-eqb (length d) 140 l, ← f, t, ← g, not-true k u)

        module _ (u : not k ≡ false) (j : Result ℕ Refusal) (e : told_judged j ≡ readable Response false p (gives (chl p))) where
          pub report_refused : (r : Refusal) → j ≡ Err r → reported (refused (refusal_number r)) d ≡ write_report edition spi capacity p d
          unfolding write_report reporting
          report_refused r v = rw (eq-eqb (length d) 140 l, ← f, t, ← g, not-false k u, ← judged_refused Response false p j e r v)

          pub report_sent : (h : ℕ) → j ≡ Ok h → (status : ℕ) → status ≡ announced_by edition → (w : Reported)
              → w ≡ writes_report (refuse 17 when reserved spi otherwise gives (going_out status spi capacity p)) d → w ≡ write_report edition spi capacity p d
          unfolding write_report reporting
          report_sent h v status s w i =
              rw (eq-eqb (length d) 140 l, ← f, t, ← g, not-false k u, ← s, ← judged_readable Response false p j e h v) i

-- ---- the receiver
module _ (p : List ℕ) (j : Result ℕ Refusal) (e : told_judged j ≡ readable Response false p (gives (chl p))) where
  pub announces_refused : (r : Refusal) → j ≡ Err r → refused (refusal_number r) ≡ response_announces p
  unfolding response_announces
  announces_refused r t = judged_refused Response false p j e r t (gives (announces_another (get_or p 12 0)))

  pub status_inside : (h : ℕ) → j ≡ Ok h → 12 < length p
  status_inside h t = let f : PacketLengths Response p = judged_formed Response false p j e h t in omega arith

  pub announces_told : (h : ℕ) → j ≡ Ok h → (a b : Bool) → a ≡ announces_another (get_or p 12 0) → a ≡ b → gives b ≡ response_announces p
  unfolding response_announces
  announces_told h t a b f g = rw (← f, g) (judged_readable Response false p j e h t (gives b))

pub ruleset steps = (
  rules,
  judged_formed,
  judged_size,
  report_put,
  announcement_long,
  announcement_put,
  sends_refused,
  sends_nothing,
  sends_submit,
  sends_report,
  sends_announcement,
  report_buffer,
  report_capacity,
  capacity_most,
  edition_old,
  edition_other,
  report_edition,
  report_refused,
  report_sent,
  announces_refused,
  status_inside,
  announces_told,
)
