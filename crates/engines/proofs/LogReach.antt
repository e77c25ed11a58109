-- Logs that calls and beats lead to: what a part and a beat make of such a log is one too, and such a log is the same as a well-formed record with cells.
use Prim.Native.Nat.{ℕ, ◌≤◌, ◌<◌}
use mathlib.Core.Path.{◌≡◌, refl, sym, ap, ◌∙◌, subst}
use mathlib.Core.Bool.{true}
use mathlib.Core.List.{List, [], ◌∷◌, ◌++◌}
use native.Mathlib.Omega.{arith}
use lib.ListN.{length, replicate, length-replicate}
use borrow.Author.Tests.{ne_eqb}
use Rattle.types.specs.Refusals as reading
use Rattle.types.specs.declared.Kind.{Kind}
use Rattle.types.specs.declared.Key.{Key}
use Rattle.types.specs.declared.Slot.{Slot}
use Rattle.packet.specs.Packets.{most_octets}
use Rattle.arrival.specs.Arrivals.{Brought}
use Rattle.arrival.specs.Keys.{key_formed, total_fits, length_fits}
use Rattle.formed.specs.Laws.{Formed}
use Rattle.cells.specs.Cells.{cells_size}
use Rattle.series.specs.Calls.{Input, octets_of, read}
use Rattle.plain.specs.Entries.{Entry, log_octets, entries_from, LogState}
use Rattle.plain.specs.Log.{log_take_part, log_after_beat}
use Rattle.plain.specs.Engine.{AfterLog, state_formed, log_taken, log_take_input, log_beat}
use Rattle.plain.specs.Same.{SameLog}
use Rattle.series.specs.CallLaws.{is_page}
use Rattle.plain.specs.Equal.{plain_comes, together_formed}
use Rattle.sequences.specs.Runs.{Slots, Call, Event, takes, beats, Store, fresh, run, Proper, Each}
use Rattle.sequences.specs.Reachable.{KeyFits, Possible}
use Rattle.engines.specs.Plain.{plain_by, plain_run, plain_after, plain_fresh}
use Rattle.sequences.proofs.Along.{All, each, all_more}
use Rattle.sequences.proofs.Calls.{Kept, kept_fresh}
use Rattle.sequences.proofs.Wake as wake
use Rattle.sequences.proofs.Written.{Small}
use Rattle.sequences.proofs.Bringing.{can_bring_own}
use Rattle.engines.proofs.Plain.{Joint, joint_after}

-- a part that can be brought
pub record Bringable (k : Kind) (key : Key) (total number : ℕ) (own : List ℕ) : Type 0 where
  pub small : Small own
  pub fits : KeyFits key
  pub key_formed_lem : key_formed k key ≡ true
  pub total_fits_lem : total_fits key total ≡ true
  pub low : 1 ≤ number
  pub high : number ≤ total
  pub length_fits_lem : length_fits key number (length own) ≡ true

run_on : (s : LogState) (u v : List Event) → plain_run s (u ++ v) ≡ plain_run (plain_run s u) v
run_on s [] v = refl
run_on s (e ∷ u) v = run_on (plain_by s e) u v

abbrev pub blank : List ℕ
blank = replicate most_octets 0

taking_log : (s : LogState) (i : Input) → state_formed s ≡ true → (log_take_input s blank i).state.log ≡ (log_taken s.slots s.kind s.log blank (is_page i) (octets_of i) (read s.kind i)).log
taking_log s i f = ap (λ (a : AfterLog). a.state.log) (plain_comes s blank i) ∙ rw f

beat_log : (s : LogState) (limit : ℕ) → state_formed s ≡ true → (limit ≡ 0 → ⊥) → (log_beat s limit).state.log ≡ log_after_beat limit s.log
unfolding log_beat
beat_log s limit f ne = rw (f, ne_eqb limit 0 ne)

module _ (n : ℕ) (good : Slots n) (k : Kind) (lent : List ℕ) (long : length lent ≡ log_octets) where
  pub record Reach (log : List Entry) : Type 0 where
    pub events : List Event
    pub possible : All Possible events
    pub lead : (plain_after n k lent events).log ≡ log

  pub reach_none : Reach []
  unfolding entries_from
  reach_none = record { events = []; possible = tt; lead = refl }

  cells : List ℕ
  cells = replicate (cells_size n) 0

  module _ (log : List Entry) (r : Reach log) where
    proper : Each Proper r.events
    proper = λ u e v q. (each Possible r.events r.possible u e v q).proper

    s : LogState
    s = plain_after n k lent r.events

    st : Store
    st = run n (fresh n k cells) r.events

    joint : Joint n s st
    unfolding s st cells
    joint = joint_after n good k cells lent (record { for_cells = length-replicate {A = ℕ} (cells_size n) 0; for_log = long }) r.events proper

    stays : Kept n k st
    unfolding st cells
    stays = kept_fresh n good k (wake.admits k) cells (length-replicate {A = ℕ} (cells_size n) 0) r.events proper

    same_kind : s.kind ≡ k
    same_kind = sym joint.together.kind ∙ stays.kind

    formed : state_formed s ≡ true
    formed = together_formed s st.rec st.cells joint.together

    is_log : s.log ≡ log
    unfolding s
    is_log = r.lead

    -- the record and the cells that it is the same as
    pub known : (xs : List Slot) × (c : List ℕ) × Formed n k xs × SameLog n xs c log
    known = (
      st.rec.slots,
      st.cells,
      subst (λ (q : Kind). Formed n q st.rec.slots) stays.kind stays.sound.formed,
      subst (λ (m : ℕ). SameLog m st.rec.slots st.cells log) joint.slots (subst (λ (l : List Entry). SameLog s.slots st.rec.slots st.cells l) is_log joint.together.same),
    )

    pub reach_part : (key : Key) (total number : ℕ) (own : List ℕ) → Bringable k key total number own → (after : List Entry) → (log_take_part n k log blank key total number own).log ≡ after → Reach after
    unfolding s
    reach_part key total number own b after does =
        let br = can_bring_own k key total number own b.small b.fits b.key_formed_lem b.total_fits_lem b.low b.high b.length_fits_lem in
        let c : Call = record { input = br.input; output = blank } in
        let i : Input = br.input in record {
          events = r.events ++ takes c ∷ [];
          possible = all_more Possible r.events (takes c) r.possible (record { proper = record { output = length-replicate {A = ℕ} most_octets 0; octets = br.octets }; sender = br.sender });
          lead = ap (λ (x : LogState). x.log) (run_on (plain_fresh n k lent) r.events (takes c ∷ []))
              ∙ taking_log s i formed
              ∙ ap (λ (m : ℕ). (log_taken m s.kind s.log blank (is_page i) (octets_of i) (read s.kind i)).log) joint.slots
              ∙ ap (λ (q : Kind). (log_taken n q s.log blank (is_page i) (octets_of i) (read q i)).log) same_kind
              ∙ ap (λ (l : List Entry). (log_taken n k l blank (is_page i) (octets_of i) (read k i)).log) is_log
              ∙ ap (λ (o : reading.Outcome Brought). (log_taken n k log blank (is_page i) (octets_of i) o).log) br.is
              ∙ ap (λ (o : List ℕ). (log_take_part n k log blank key total number o).log) br.brings
              ∙ does;
        }

    pub reach_beat : (limit : ℕ) → 0 < limit → limit < 256 → (after : List Entry) → log_after_beat limit log ≡ after → Reach after
    unfolding s
    reach_beat limit low high after does = record {
      events = r.events ++ beats limit ∷ [];
      possible = all_more Possible r.events (beats limit) r.possible (record { proper = high; sender = tt });
      lead = ap (λ (x : LogState). x.log) (run_on (plain_fresh n k lent) r.events (beats limit ∷ []))
          ∙ beat_log s limit formed (λ z. omega arith) ∙ ap (log_after_beat limit) is_log ∙ does;
    }
