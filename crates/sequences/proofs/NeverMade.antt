-- A record is refused 1 exactly if it could not have been made. If it can be made it is well formed, and then no call with buffers of 01's lengths
-- answers 1: reading refuses by 2 to 6, a part by 7, 8 or 9, a beat by 18. If it cannot, it is not well formed, since every well-formed record
-- can be made.
use Prim.Native.Nat.{ℕ}
use mathlib.Core.Path.{◌≡◌, refl, ap, ◌∙◌}
use mathlib.Core.Bool.{Bool, true, false, not, cond, ◌||◌, or-true}
use mathlib.Core.List.{List}
use mathlib.Core.Option.{Option, none, some}
use lib.ListN.{length, replicate, length-replicate, drop}
use lib.Dec.{eqb, ltb, leb}
use borrow.Author.Tests.{eqb-true}
use Rattle.octets.specs.Tests.{clash, both, by_test}
use Rattle.types.specs.Refusals as refusal
use Rattle.types.specs.Refusals.{Outcome, refuse◌when◌otherwise◌}
use Rattle.types.specs.declared.Kind.{Kind}
use Rattle.types.specs.declared.Key.{Key}
use Rattle.types.specs.declared.Record.{Record}
use Rattle.header.specs.declared.Seen.{Seen}
use Rattle.header.specs.Header.{Item, elements, summary}
use Rattle.packet.specs.Packets.{most_octets}
use Rattle.arrival.specs.Arrivals.{Brought, single, part}
use Rattle.arrival.specs.Message.{most_user_data, udhl, header_octets, after_header, alone, misplaced, most_parts, message_key, judged, where_read, read_message}
use Rattle.arrival.specs.Page.{page_octets, page_header, parameter_in, page_number, page_total, serial_in, identifier_in, identifier_in_range, no_pages, page_key, read_page}
use Rattle.arrival.specs.Keys.{of_pages}
use Rattle.joined.specs.Fronts.{packet_in}
use Rattle.slots.specs.Slots.{slot_at, freed, with_slots}
use Rattle.formed.specs.Formed.{slots_formed, record_formed}
use Rattle.formed.specs.Laws.{Formed, formed_tells}
use Rattle.beats.specs.Beats.{dropped_by, leaves_beat, beat}
use Rattle.cells.specs.Cells.{cells_size, joined_octets}
use Rattle.series.specs.Taking.{State, Answer, kept, held_already, packet, refused_by, After, Step, hand_out, acted, step, take_part, taken}
use Rattle.series.specs.CaseLaws.{Case, other_total, other_octets, held_so, last, more, takes_free, displaces, case_of}
use Rattle.series.specs.Calls.{Input, message, page, octets_of, read, take_input}
use Rattle.sequences.specs.Runs.{Slots}
use Rattle.sequences.specs.Reachable.{KeysFit, MadeIn, NeverMade, Exactly, RefusedIfNeverMade}
use Rattle.sequences.proofs.Calls.{is_page, taking, unfit_taken}
use Rattle.sequences.proofs.Reachable.{acceptance}

-- ---- refused by 1
abbrev pub by_one : {A : Type 0} → Outcome A → Bool
by_one (refusal.refused m) = eqb m 1
by_one (refusal.gives x) = false

abbrev pub answers_one : Answer → Bool
answers_one (kept slot displaced) = false
answers_one (held_already slot) = false
answers_one (packet size) = false
answers_one (refused_by m) = eqb m 1

-- reading
judged_other : (k : Kind) (sender start : ℕ) (s : Seen) → by_one (judged k sender start s) ≡ false
unfolding judged
judged_other k sender start s = go s.wrong (misplaced k s) (alone s.concatenation) (ltb most_parts s.concatenation.total)
  where
    go : (a b c d : Bool)
        → by_one (refuse 4 when a otherwise refuse 5 when b otherwise
        cond c (refusal.gives (single start)) (refuse 6 when d otherwise refusal.gives (part (message_key sender s.concatenation) s.concatenation.total s.concatenation.number start))) ≡ false
    go true b c d = refl
    go false true c d = refl
    go false false true d = refl
    go false false false true = refl
    go false false false false = refl

message_other : (k : Kind) (sender : ℕ) (ud : List ℕ) → by_one (read_message k sender ud) ≡ false
unfolding read_message
message_other k sender ud = go (ltb most_user_data (length ud)) (leb (length ud) (udhl ud)) (elements (header_octets ud))
  where
    go : (a b : Bool) (o : Option (List Item)) → by_one (refuse 2 when a otherwise refuse 3 when b otherwise where_read (λ es. judged k sender (after_header ud) (summary es)) o) ≡ false
    go true b o = refl
    go false true o = refl
    go false false none = refl
    go false false (some es) = judged_other k sender (after_header ud) (summary es)

page_other : (k : Kind) (o : List ℕ) → by_one (read_page k o) ≡ false
unfolding read_page
page_other k o =
    go (not (eqb (length o) page_octets)) (ltb (page_total (parameter_in o)) (page_number (parameter_in o))) (no_pages k || not (identifier_in_range (identifier_in o))) (eqb (page_total (parameter_in o)) 1)
  where
    go : (a b c d : Bool)
        → by_one (refuse 2 when a otherwise refuse 4 when b otherwise refuse 5 when c otherwise
        cond d (refusal.gives (single page_header)) (refusal.gives (part (page_key (serial_in o) (identifier_in o)) (page_total (parameter_in o)) (page_number (parameter_in o)) page_header))) ≡ false
    go true b c d = refl
    go false true c d = refl
    go false false true d = refl
    go false false false true = refl
    go false false false false = refl

pub read_other : (k : Kind) (i : Input) → by_one (read k i) ≡ false
read_other k (message sender ud) = message_other k sender ud
read_other k (page o) = page_other k o

-- taking
handed_other : (s : State) (r : Record) (o : Option (List ℕ)) → answers_one (hand_out s r o).answer ≡ false
handed_other s r none = refl
handed_other s r (some p) = refl

module _ (n : ℕ) (s : State) (w : Formed n s.rec.kind s.rec.slots) where
  part_other : (key : Key) (total number : ℕ) (octets : List ℕ) (z : Step) → Case n s key total number octets z → answers_one (acted n s key total number octets z).answer ≡ false
  part_other key total number octets z (other_total i b t) = refl
  part_other key total number octets z (other_octets i b t h c) = refl
  part_other key total number octets z (held_so i b t h c) = refl
  part_other key total number octets z (last i b t h c) =
      handed_other s (with_slots s.rec (freed s.rec.slots i))
      (packet_in s.rec.kind (of_pages key) total (joined_octets s.cells (slot_at s.rec.slots i) i number octets))
  part_other key total number octets z (more i b t h c) = refl
  part_other key total number octets z (takes_free i lacks l e lower) = refl
  part_other key total number octets z (displaces i lacks l e all) = refl

  taken_other : (paged : Bool) (o : List ℕ) (b : Outcome Brought) → by_one b ≡ false → answers_one (taken n s paged o b).answer ≡ false
  unfolding take_part
  taken_other paged o (refusal.refused m) e = e
  taken_other paged o (refusal.gives (single start)) e = handed_other s s.rec (packet_in s.rec.kind paged 1 (drop start o))
  taken_other paged o (refusal.gives (part key total number start)) e =
      part_other key total number (drop start o) (step n s key total number (drop start o)) (case_of n s key total number (drop start o) w)

-- ---- made, and well formed
formed_here : (r : Record) → record_formed r.count r ≡ true → Formed r.count r.kind r.slots
formed_here r e = formed_tells r.count r.kind r.slots (both (eqb r.count r.count) (slots_formed r.count r.kind r.slots) e).1

made_formed : (r : Record) (n : ℕ) → Slots n → (cells : List ℕ) → MadeIn n cells r → record_formed r.count r ≡ true
made_formed r n good cells made =
    let f : record_formed n r ≡ true = (acceptance n good).made_is_formed r cells made in
    let number : r.count ≡ n = eqb-true r.count n (both (eqb r.count n) (slots_formed n r.kind r.slots) f).0 in
    ap (λ (m : ℕ). record_formed m r) number ∙ f

tested : (r : Record) → KeysFit r → Exactly (record_formed r.count r ≡ false) (NeverMade r)
tested r fit = (λ e n good cells made. clash (record_formed r.count r) (made_formed r n good cells made) e, λ never. by_test (record_formed r.count r) (λ t. absurd (some_way never t)) (λ e. e))
  where
    some_way : NeverMade r → record_formed r.count r ≡ true → ⊥
    some_way never t =
        let w = formed_here r t in
        let good : Slots r.count = record { some = w.low; most = w.high } in
        let zeros : List ℕ = replicate (cells_size r.count) 0 in
        never r.count good zeros ((acceptance r.count good).formed_is_made r fit t zeros (length-replicate {A = ℕ} (cells_size r.count) 0))

-- a record of which a call says that it is refused 1 exactly if it is not well formed
by_formed : {This : Type 0} (r : Record) → KeysFit r → (This → record_formed r.count r ≡ true → ⊥) → (record_formed r.count r ≡ false → This) → Exactly This (NeverMade r)
by_formed r fit out back =
    let (to, from) = tested r fit in
    (λ this. to (by_test (record_formed r.count r) (λ t. absurd (out this t)) (λ e. e)), λ never. back (from never))

beaten_other : (r : Record) (limit : ℕ) → record_formed r.count r ≡ true → by_one (beat r.count r limit).answer ≡ false
unfolding beat
beaten_other r limit e = rw e (go (eqb limit 0))
  where
    go : (z : Bool) → by_one (leaves_beat r limit (refuse 18 when z otherwise refusal.gives (dropped_by limit r.slots))).answer ≡ false
    go true = refl
    go false = refl

beaten_one : (r : Record) (limit : ℕ) → record_formed r.count r ≡ false → (beat r.count r limit).answer ≡ refusal.refused 1
unfolding beat
beaten_one r limit e = rw e

pub refused_if_never_made : RefusedIfNeverMade
refused_if_never_made = record {
  tested = tested;
  taking = λ s i fit size long.
      by_formed s.rec fit
      (λ one t. clash (answers_one (take_input s.rec.count s i).answer) (ap answers_one one)
      (ap (λ (a : After). answers_one a.answer) (taking s.rec.count s (record { number = refl; formed = formed_here s.rec t; size = size }) long i)
      ∙ taken_other s.rec.count s (formed_here s.rec t) (is_page i) (octets_of i) (read s.rec.kind i) (read_other s.rec.kind i)))
      (λ e. ap (λ (a : After). a.answer) (unfit_taken s.rec.count s i (rw (e, or-true (not (eqb (length s.cells) (cells_size s.rec.count)) || not (eqb (length s.output) most_octets))))));
  beating = λ r limit fit.
      by_formed r fit (λ one t. clash (by_one (beat r.count r limit).answer) (ap by_one one) (beaten_other r limit t)) (beaten_one r limit);
}
