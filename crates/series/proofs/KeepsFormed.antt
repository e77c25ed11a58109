-- Taking keeps a well-formed record well formed, and the cells as long as they were.
use Rattle.std.specs.Prelude.{ℕ, ◌≤◌, ◌<◌, ◌≡◌, Bool, true, false, List, length, drop}
use Rattle.std.proofs.Math.Path.{refl}
use Rattle.std.proofs.Common.{sym, ◌∙◌, arith}
use Rattle.std.proofs.Math.Option.{Option, none, some}
use Rattle.types.specs.declared.Kind.{Kind}
use Rattle.types.specs.Refusals as reading
use Rattle.types.specs.declared.Key.{Key}
use Rattle.arrival.specs.Arrivals.{Brought, single, part}
use Rattle.arrival.specs.Message.{most_parts}
use Rattle.arrival.specs.Keys.{of_pages}
use Rattle.arrival.specs.Laws.{Admitted}
use Rattle.joined.specs.Fronts.{packet_in}
use Rattle.types.specs.declared.Slot.{Slot}
use Rattle.types.specs.declared.Record.{Record}
use Rattle.slots.specs.Slots.{slot_at, opened, at_front, with_part, held_at, to_front, freed, with_slots}
use Rattle.formed.specs.Formed.{slot_formed}
use Rattle.formed.specs.Laws.{UsedSlot, slot_tells, slot_front, front_formed, free_formed}
use Rattle.series.specs.PartLaws.{total_bounds, ready_held, ready_opened, part_more}
use Rattle.series.specs.CaseLaws.{Bears, Case, other_total, other_octets, held_so, last, more, takes_free, displaces, case_of}
use Rattle.cells.specs.Cells.{joined_octets}
use Rattle.cells.specs.CellLaws.{cells_size_lem}
use Rattle.series.specs.Taking.{completes, State, Step, refuses, repeats, keeps, finishes, hand_out, acted, step, take_part, taken}
use Rattle.series.specs.KeepLaws.{short, Sound, SoundAfter}

-- handing out, or refusing 9, leaves the record that it is given
pub handed_sound : (n : ℕ) (s : State) (r : Record) (o : Option (List ℕ)) → Sound n r s.cells → SoundAfter n (hand_out s r o)
handed_sound n s r none w = w
handed_sound n s r (some p) w = w

module _ (n : ℕ) (s : State) (w : Sound n s.rec s.cells) where
  abbrev xs : List Slot
  xs = s.rec.slots

  abbrev k : Kind
  k = s.rec.kind

  module _ (key : Key) (total number : ℕ) (octets : List ℕ) (adm : Admitted k key total number octets) where
    low : 1 ≤ number
    low = adm.low

    sixteen : number ≤ most_parts
    sixteen = omega (arith, adm.high, total_bounds key total adm.total_fits)

    -- slot i comes to the front with the part: no other slot has the key
    kept_sound : (i : ℕ) → i < n → (d : Bool) (x : Slot) → x.key ≡ key → slot_formed k (at_front (with_part x number (length octets))) ≡ true
        → ((j : ℕ) → j < n → (j ≡ i → ⊥) → 0 < (slot_at xs j).rank → (slot_at xs j).key ≡ key → ⊥)
        → SoundAfter n (acted n s key total number octets (keeps i d x))
    kept_sound i l d x e ok alone = record {
      number = w.number;
      formed = front_formed n k xs w.formed i l (with_part x number (length octets)) ok (λ j m ne u q. alone j m ne u (q ∙ e));
      size = cells_size_lem n s.cells w.size i number l low sixteen octets (short key number (length octets) adm.length_fits);
    }

    opened_formed : slot_formed k (at_front (with_part (opened key total) number (length octets))) ≡ true
    opened_formed =
        slot_front k (with_part (opened key total) number (length octets))
        (part_more k (opened key total) number (length octets) (ready_opened k key total number adm.key_formed adm.total_fits low adm.high) low adm.high adm.length_fits)

    module _ (i : ℕ) (b : Bears n xs key i) where
      was_used : UsedSlot k (slot_at xs i)
      was_used = slot_tells k (slot_at xs i) (w.formed.slots i b.inside) b.used

      alone_there : (j : ℕ) → j < n → (j ≡ i → ⊥) → 0 < (slot_at xs j).rank → (slot_at xs j).key ≡ key → ⊥
      alone_there j l ne u q = ne (w.formed.keys j i l b.inside u b.used (q ∙ sym b.key))

      more_formed : (slot_at xs i).total ≡ total → held_at (slot_at xs i) number ≡ false → completes (slot_at xs i) number ≡ false
          → slot_formed k (at_front (with_part (slot_at xs i) number (length octets))) ≡ true
      more_formed t h c =
          slot_front k (with_part (slot_at xs i) number (length octets))
          (part_more k (slot_at xs i) number (length octets) (ready_held k (slot_at xs i) number was_used h c) low (omega (arith, adm.high)) (rw b.key adm.length_fits))

    case_sound : (st : Step) → Case n s key total number octets st → SoundAfter n (acted n s key total number octets st)
    case_sound st (other_total i b t) = w
    case_sound st (other_octets i b t h c) = w
    case_sound st (held_so i b t h c) = record {
      number = w.number;
      formed = front_formed n k xs w.formed i b.inside (slot_at xs i)
          (slot_front k (slot_at xs i) (was_used i b))
          (λ j l ne u q. alone_there i b j l ne u (q ∙ b.key));
      size = w.size;
    }
    case_sound st (last i b t h c) =
        handed_sound n s (with_slots s.rec (freed xs i)) (packet_in k (of_pages key) total (joined_octets s.cells (slot_at xs i) i number octets))
        (record { number = w.number; formed = free_formed n k xs w.formed i b.inside b.used; size = w.size })
    case_sound st (more i b t h c) = kept_sound i b.inside false (slot_at xs i) b.key (more_formed i b t h c) (alone_there i b)
    case_sound st (takes_free i lacks l z lower) = kept_sound i l false (opened key total) refl opened_formed (λ j m ne u q. lacks j m u q)
    case_sound st (displaces i lacks l z all) = kept_sound i l true (opened key total) refl opened_formed (λ j m ne u q. lacks j m u q)

    pub part_sound : SoundAfter n (take_part n s key total number octets)
    unfolding take_part
    part_sound = case_sound (step n s key total number octets) (case_of n s key total number octets w.formed)

  -- so is all that taking can come to
  pub taken_sound : (paged : Bool) (o : List ℕ) (b : reading.Outcome Brought)
      → ((key : Key) (total number start : ℕ) → b ≡ reading.gives (part key total number start) → Admitted k key total number (drop start o))
      → SoundAfter n (taken n s paged o b)
  taken_sound paged o (reading.refused m) adm = w
  taken_sound paged o (reading.gives (single start)) adm = handed_sound n s s.rec (packet_in k paged 1 (drop start o)) w
  taken_sound paged o (reading.gives (part key total number start)) adm = part_sound key total number (drop start o) (adm key total number start refl)

-- ---- whatever does not look at the slots of a record stays: its kind, and its number of slots
module _ {A : Type 0} (g : Record → A) (apart : (r : Record) (xs : List Slot) → g (with_slots r xs) ≡ g r) where
  handed_stays : (s : State) (r : Record) (o : Option (List ℕ)) → g r ≡ g s.rec → g (hand_out s r o).state.rec ≡ g s.rec
  handed_stays s r none e = e
  handed_stays s r (some p) e = e

  acted_stays : (n : ℕ) (s : State) (key : Key) (total number : ℕ) (octets : List ℕ) (st : Step) → g (acted n s key total number octets st).state.rec ≡ g s.rec
  acted_stays n s key total number octets (refuses m) = refl
  acted_stays n s key total number octets (repeats i) = apart s.rec (to_front s.rec.slots i (slot_at s.rec.slots i))
  acted_stays n s key total number octets (keeps i d x) = apart s.rec (to_front s.rec.slots i (with_part x number (length octets)))
  acted_stays n s key total number octets (finishes i) =
      handed_stays s (with_slots s.rec (freed s.rec.slots i)) (packet_in s.rec.kind (of_pages key) total (joined_octets s.cells (slot_at s.rec.slots i) i number octets)) (apart s.rec (freed s.rec.slots i))

  pub taken_stays : (n : ℕ) (s : State) (paged : Bool) (o : List ℕ) (b : reading.Outcome Brought) → g (taken n s paged o b).state.rec ≡ g s.rec
  unfolding take_part
  taken_stays n s paged o (reading.refused m) = refl
  taken_stays n s paged o (reading.gives (single start)) = handed_stays s s.rec (packet_in s.rec.kind paged 1 (drop start o)) refl
  taken_stays n s paged o (reading.gives (part key total number start)) = acted_stays n s key total number (drop start o) (step n s key total number (drop start o))

pub taken_kind : (n : ℕ) (s : State) (paged : Bool) (o : List ℕ) (b : reading.Outcome Brought) → (taken n s paged o b).state.rec.kind ≡ s.rec.kind
taken_kind = taken_stays (λ r. r.kind) (λ r xs. refl)
