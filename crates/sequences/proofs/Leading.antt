-- One call or beat that leads from a record to another, whatever the cells hold: a part kept beside others, a part that opens a series, one that
-- finishes a series, and a beat that drops nothing.
use Prim.Native.Nat.{ℕ, ◌<◌}
use mathlib.Core.Path.{◌≡◌, refl, sym, ap, ◌∙◌}
use mathlib.Core.Bool.{Bool, true, false, cond}
use mathlib.Core.List.{List}
use native.Mathlib.Omega.{arith}
use lib.ListN.{length, drop, replicate, length-replicate}
use lib.Dec.{ltb}
use borrow.Author.Tests.{ltb-true, ltb-false}
use Rattle.octets.specs.Tests.{clash, Same, same, other, same?, by_test}
use Rattle.types.specs.Refusals as reading
use Rattle.types.specs.declared.Kind.{Kind}
use Rattle.types.specs.declared.Key.{Key}
use Rattle.types.specs.declared.Slot.{Slot}
use Rattle.types.specs.declared.Record.{Record}
use Rattle.packet.specs.Packets.{most_octets}
use Rattle.arrival.specs.Arrivals.{Brought}
use Rattle.arrival.specs.Keys.{of_pages}
use Rattle.joined.specs.Fronts.{packet_in}
use Rattle.slots.specs.Slots.{slot_at, opened, held_at, with_part, to_front, freed}
use Rattle.formed.specs.Laws.{Formed}
use Rattle.beats.specs.Beats.{slots_after_beat}
use Rattle.cells.specs.Cells.{cells_size, joined_octets}
use Rattle.series.specs.Taking.{State, After, state, Step, keeps, finishes, completes, acted, step, take_part, taken}
use Rattle.series.specs.CaseLaws.{Bears, Lacks, Case, other_total, other_octets, held_so, last, more, takes_free, displaces, case_of}
use Rattle.series.specs.Calls.{octets_of}
use Rattle.sequences.specs.Runs.{Slots, Event, takes, beats, Store, left_by}
use Rattle.sequences.specs.Reachable.{Possible}
use Rattle.sequences.proofs.Calls.{is_page, taking, beat_is}
use Rattle.sequences.proofs.Bringing.{Brings}
use Rattle.sequences.proofs.Fitting.{handed_record}

abbrev pub record_of : ℕ → Kind → List Slot → Record
record_of n k xs = record { kind = k; count = n; slots = xs }

abbrev store_of : ℕ → Kind → List Slot → List ℕ → Store
store_of n k xs cells = record { rec = record_of n k xs; cells = cells }

pub record Leads (n : ℕ) (k : Kind) (ys xs : List Slot) : Type 0 where
  pub event : Event
  pub possible : Possible event
  pub to : (cells : List ℕ) → length cells ≡ cells_size n → (left_by n (store_of n k ys cells) event).rec ≡ record_of n k xs

-- ---- what a part does to the record
module _ (n : ℕ) (k : Kind) (xs : List Slot) (w : Formed n k xs) (cells output : List ℕ) (key : Key) (total number : ℕ) (octets : List ℕ) where
  abbrev s : State
  s = state (record_of n k xs) cells output

  slots_after : (z : Step) → step n s key total number octets ≡ z → (r : Record) → (acted n s key total number octets z).state.rec ≡ r
      → (take_part n s key total number octets).state.rec ≡ r
  unfolding take_part
  slots_after z e r f = ap (λ (y : Step). (acted n s key total number octets y).state.rec) e ∙ f

  -- its series is there, in slot i: the part completes it, or is kept
  module _ (i : ℕ) (b : Bears n xs key i) (t : (slot_at xs i).total ≡ total) (h : held_at (slot_at xs i) number ≡ false) where
    found : (j : ℕ) → Bears n xs key j → i ≡ j
    found j a = w.keys i j b.inside a.inside b.used a.used (b.key ∙ sym a.key)

    held_there : (j : ℕ) → Bears n xs key j → held_at (slot_at xs j) number ≡ true → ⊥
    held_there j a e = clash (held_at (slot_at xs j) number) e (ap (λ (o : ℕ). held_at (slot_at xs o) number) (sym (found j a)) ∙ h)

    in_series_lem : step n s key total number octets ≡ cond (completes (slot_at xs i) number) (finishes i) (keeps i false (slot_at xs i))
    in_series_lem = go (step n s key total number octets) (case_of n s key total number octets w)
      where
        at_j : (c : Bool) (j : ℕ) → i ≡ j → completes (slot_at xs j) number ≡ c
            → cond c (finishes j) (keeps j false (slot_at xs j)) ≡ cond (completes (slot_at xs i) number) (finishes i) (keeps i false (slot_at xs i))
        at_j c j q e =
            ap (λ (d : Bool). cond d (finishes j) (keeps j false (slot_at xs j))) (sym e)
            ∙ ap (λ (o : ℕ). cond (completes (slot_at xs o) number) (finishes o) (keeps o false (slot_at xs o))) (sym q)

        go : (z : Step) → Case n s key total number octets z → z ≡ cond (completes (slot_at xs i) number) (finishes i) (keeps i false (slot_at xs i))
        go z (other_total j a ne) = absurd (ne (ap (λ (o : ℕ). (slot_at xs o).total) (sym (found j a)) ∙ t))
        go z (other_octets j a u e c) = absurd (held_there j a e)
        go z (held_so j a u e c) = absurd (held_there j a e)
        go z (last j a u e c) = at_j true j (found j a) c
        go z (more j a u e c) = at_j false j (found j a) c
        go z (takes_free j lacks l e lower) = absurd (lacks i b.inside b.used b.key)
        go z (displaces j lacks l e all) = absurd (lacks i b.inside b.used b.key)

    pub keeps_more : completes (slot_at xs i) number ≡ false
        → (take_part n s key total number octets).state.rec ≡ record_of n k (to_front xs i (with_part (slot_at xs i) number (length octets)))
    keeps_more c = slots_after (keeps i false (slot_at xs i)) (in_series_lem ∙ rw c) (record_of n k (to_front xs i (with_part (slot_at xs i) number (length octets)))) refl

    pub finishes_there : completes (slot_at xs i) number ≡ true → (take_part n s key total number octets).state.rec ≡ record_of n k (freed xs i)
    finishes_there c =
        slots_after (finishes i) (in_series_lem ∙ rw c) (record_of n k (freed xs i))
        (handed_record s (record_of n k (freed xs i)) (packet_in k (of_pages key) total (joined_octets cells (slot_at xs i) i number octets)))

  -- its series is not there, and slot i is the lowest free one
  pub opens_new : (i : ℕ) → i < n → Lacks n xs key → (slot_at xs i).rank ≡ 0 → ((j : ℕ) → j < i → 0 < (slot_at xs j).rank)
      → (take_part n s key total number octets).state.rec ≡ record_of n k (to_front xs i (with_part (opened key total) number (length octets)))
  opens_new i inside lacks empty below =
      slots_after (keeps i false (opened key total)) (go (step n s key total number octets) (case_of n s key total number octets w))
      (record_of n k (to_front xs i (with_part (opened key total) number (length octets)))) refl
    where
      lowest : (j : ℕ) → (slot_at xs j).rank ≡ 0 → ((o : ℕ) → o < j → 0 < (slot_at xs o).rank) → Same j i → j ≡ i
      lowest j e lower (same a q) = q
      lowest j e lower (other a ne) =
          by_test (ltb j i) (λ t. absurd (omega (arith, below j (ltb-true j i t)))) (λ t. absurd (omega (arith, lower i (omega (arith, ltb-false j i t)))))

      go : (z : Step) → Case n s key total number octets z → z ≡ keeps i false (opened key total)
      go z (other_total j a ne) = absurd (lacks j a.inside a.used a.key)
      go z (other_octets j a u e c) = absurd (lacks j a.inside a.used a.key)
      go z (held_so j a u e c) = absurd (lacks j a.inside a.used a.key)
      go z (last j a u e c) = absurd (lacks j a.inside a.used a.key)
      go z (more j a u e c) = absurd (lacks j a.inside a.used a.key)
      go z (takes_free j none_held l e lower) = ap (λ (o : ℕ). keeps o false (opened key total)) (lowest j e lower (same? j i))
      go z (displaces j none_held l e all) = absurd (omega (arith, all i inside))

-- ---- a call, and a beat
module _ (n : ℕ) (k : Kind) (ys xs : List Slot) (w : Formed n k ys) where
  pub lead_by_part : (key : Key) (total number size : ℕ) → Brings k key total number size
      → ((cells output octets : List ℕ) → length octets ≡ size → (take_part n (state (record_of n k ys) cells output) key total number octets).state.rec ≡ record_of n k xs)
      → Leads n k ys xs
  lead_by_part key total number size br does =
      let out : List ℕ = replicate most_octets 0 in record {
        event = takes (record { input = br.input; output = out });
        possible = record { proper = record { output = length-replicate {A = ℕ} most_octets 0; octets = br.octets }; sender = br.sender };
        to = λ cells long.
            let s : State = state (record_of n k ys) cells (replicate most_octets 0) in
            ap (λ (a : After). a.state.rec)
            (taking n s (record { number = refl; formed = w; size = long }) (length-replicate {A = ℕ} most_octets 0) br.input
            ∙ ap (λ (o : reading.Outcome Brought). taken n s (is_page br.input) (octets_of br.input) o) br.is)
            ∙ does cells (replicate most_octets 0) (drop br.start (octets_of br.input)) br.long;
      }

  pub lead_by_beat : Slots n → slots_after_beat 255 ys ≡ xs → Leads n k ys xs
  lead_by_beat good e = record {
    event = beats 255;
    possible = record { proper = omega arith; sender = tt };
    to = λ cells long.
        ap (λ (st : Store). st.rec) (beat_is n good k (store_of n k ys cells) (record { kind = refl; sound = record { number = refl; formed = w; size = long } }) 255 (λ z. omega arith))
        ∙ ap (record_of n k) e;
  }
