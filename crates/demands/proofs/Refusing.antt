-- A refused call leaves everything as it was, but for the one exception: by cases of what a call comes to.
use Prim.Native.Nat.{ℕ, ◌+◌}
use mathlib.Core.Path.{◌≡◌, refl, sym, ◌∙◌, subst}
use mathlib.Core.Bool.{Bool, true, false, not, cond, ◌||◌, or-true}
use mathlib.Core.List.{List, []}
use mathlib.Core.Option.{Option, none, some}
use native.Mathlib.Omega.{arith}
use lib.ListN.{length, drop}
use lib.Dec.{eqb, ltb, leb}
use borrow.Author.Tests.{not-false, eqb-true, eq-eqb, ne_eqb, lt-leb}
use Rattle.octets.specs.Tests.{neither, both}
use Rattle.types.specs.declared.Kind.{Kind}
use Rattle.types.specs.declared.Kind.TheVariants.{Response}
use Rattle.types.specs.Refusals as outcome
use Rattle.types.specs.Refusals.{refuse◌when◌otherwise◌}
use Rattle.types.specs.declared.Kind.TheVariants.{Command}
use Rattle.packet.specs.Packets.{well_formed, ciphered_command, most_octets, most_checksum, into, building, built, checksum_octets, checksummed, parsing, against_check, readable, shown, secured_of, check_of, opaque_of, fields_of, measured, shown_data, shown_check, shown_opaque}
use Rattle.types.specs.declared.Key.{Key}
use Rattle.arrival.specs.Arrivals.{Brought, single, part}
use Rattle.arrival.specs.Message.{most_user_data}
use Rattle.arrival.specs.Page.{page_octets}
use Rattle.arrival.specs.Keys.{of_pages}
use Rattle.joined.specs.Fronts.{packet_in}
use Rattle.slots.specs.Slots.{is_slot_number, slot_at, freed, with_slots, fresh_record, beside}
use Rattle.formed.specs.Formed.{slots_formed, record_formed}
use Rattle.formed.specs.Laws.{Formed, number_tells, number_told, formed_tells, fresh_formed, formed_told}
use Rattle.types.specs.declared.Record.{Record}
use Rattle.beats.specs.Beats.{beating, leaves_beat, beat}
use Rattle.cells.specs.Cells.{cells_size, joined_octets}
use Rattle.series.specs.Taking.{State, state, After, kept, held_already, packet, refused_by, Step, hand_out, acted, step, take_part, taken, unfit, refuse}
use Rattle.series.specs.CaseLaws.{Case, other_total, other_octets, held_so, last, more, takes_free, displaces, case_of}
use Rattle.series.specs.Calls.{Input, octets_of, read, take_input}
use Rattle.split.specs.Splitting as split
use Rattle.types.specs.declared.Counters.{Counters}
use Rattle.counters.specs.Counters.{unfit_counters, judged_by, or_leaves, judge_counter}
use Rattle.types.specs.declared.Outstanding.{Outstanding}
use Rattle.gateway.specs.Gateway as gateway
use Rattle.report.specs.Reporting as report
use Rattle.demands.specs.Refusing.{Leaves, unaltered, dropped, TakingRefused, BuildingRefused, ChecksumRefused, WritingRefused, PageRefused, ReportRefused, JudgingRefused, SendingRefused, ClosingRefused, ParsingRefused, AnnouncingRefused, UnfitRefused, MakingRefused, SalvagingRefused, BeatRefused, UssdWritingRefused, UssdChecksumRefused, UssdReadingRefused}
use Rattle.capture.specs.Captures.{salvaged, most_capture, salvaging}
use Rattle.ussd.specs.Ussd as ussd
use Rattle.sequences.specs.Runs.{Slots}
use Rattle.sequences.proofs.Calls.{is_page, taking_any, unfit_taken}
use Rattle.trips.proofs.Capture.{salvages_or_refuses}
use Rattle.trips.proofs.Reports.{still_refused}

-- ---- taking
-- an answer that is no refusal
pub not_kept : {j number : ℕ} {d : Bool} {A : Type 0} → kept j d ≡ refused_by number → A
not_kept e = let z : ◌≡◌ {A = ℕ} 0 1 = cc in absurd (omega arith)

pub not_held : {j number : ℕ} {A : Type 0} → held_already j ≡ refused_by number → A
not_held e = let z : ◌≡◌ {A = ℕ} 0 1 = cc in absurd (omega arith)

pub not_handed : {j number : ℕ} {A : Type 0} → packet j ≡ refused_by number → A
not_handed e = let z : ◌≡◌ {A = ℕ} 0 1 = cc in absurd (omega arith)

module _ (n : ℕ) (s : State) (i : Input) (number : ℕ) where
  -- an outcome that is refused leaves what it may
  abbrev Left : After → Type 0
  Left a = a.answer ≡ refused_by number → Leaves n s i number a.state

  -- refused by another number, or not read as a part: no series is completed
  by_number : {m : ℕ} → (m ≡ 9 → ⊥) → refused_by m ≡ refused_by number → Leaves n s i number s
  by_number ne e = unaltered (λ nine slot c. ne (cc))

  not_part : {r : outcome.Outcome Brought} → read s.rec.kind i ≡ r → ((key : Key) (total which start : ℕ) → r ≡ outcome.gives (part key total which start) → ⊥) → Leaves n s i number s
  not_part r never = unaltered (λ nine slot c. never c.key c.total c.which c.start (sym r ∙ c.brings))

  single_left : (start : ℕ) → read s.rec.kind i ≡ outcome.gives (single start) → (o : Option (List ℕ)) → Left (hand_out s s.rec o)
  single_left start r none e = not_part r (λ key total which start f. let z : ◌≡◌ {A = ℕ} 0 1 = cc in omega arith)
  single_left start r (some p) e = not_handed e

  part_left : (key : Key) (total which start : ℕ) → read s.rec.kind i ≡ outcome.gives (part key total which start)
      → (st : Step) → Case n s key total which (drop start (octets_of i)) st → Left (acted n s key total which (drop start (octets_of i)) st)
  part_left key total which start r st (other_total j b t) e = by_number (λ z. omega arith) e
  part_left key total which start r st (other_octets j b t h c) e = by_number (λ z. omega arith) e
  part_left key total which start r st (held_so j b t h c) e = not_held e
  part_left key total which start r st (last j b t h c) e =
      go (packet_in s.rec.kind (of_pages key) total (joined_octets s.cells (slot_at s.rec.slots j) j which (drop start (octets_of i)))) e
    where
      go : (o : Option (List ℕ)) → Left (hand_out s (with_slots s.rec (freed s.rec.slots j)) o)
      go none e =
          dropped (cc) j (record { key = key; total = total; which = which; start = start; brings = r; bears = b; counted = t; new = h; last = c })
      go (some p) e = not_handed e
  part_left key total which start r st (more j b t h c) e = not_kept e
  part_left key total which start r st (takes_free j l k z lower) e = not_kept e
  part_left key total which start r st (displaces j l k z all) e = not_kept e

  read_left : Formed n s.rec.kind s.rec.slots → (r : outcome.Outcome Brought) → read s.rec.kind i ≡ r → Left (taken n s (is_page i) (octets_of i) r)
  unfolding take_part
  read_left w (outcome.refused m) r e = not_part r (λ key total which start f. let z : ◌≡◌ {A = ℕ} 0 1 = cc in omega arith)
  read_left w (outcome.gives (single start)) r e = single_left start r (packet_in s.rec.kind (is_page i) 1 (drop start (octets_of i))) e
  read_left w (outcome.gives (part key total which start)) r e =
      part_left key total which start r (step n s key total which (drop start (octets_of i))) (case_of n s key total which (drop start (octets_of i)) w) e

  call_left : Left (take_input n s i)
  call_left = subst Left (sym (taking_any n s i)) (go (unfit n s) refl)
    where
      go : (b : Bool) → unfit n s ≡ b → Left (cond b ((refuse) 1 s) (taken n s (is_page i) (octets_of i) (read s.rec.kind i)))
      go true u e = by_number (λ z. omega arith) e
      go false u e =
          let f = (neither (not (eqb (length s.cells) (cells_size n)) || not (eqb (length s.output) most_octets)) (not (record_formed n s.rec)) u).1 in
          read_left (formed_tells n s.rec.kind s.rec.slots (both (eqb s.rec.count n) (slots_formed n s.rec.kind s.rec.slots) (not-false (record_formed n s.rec) f)).1) (read s.rec.kind i) refl e

pub taking_refused : (n : ℕ) → TakingRefused n
taking_refused n s i number = call_left n s i number

-- ---- the beat
beat_left : (r : Record) (limit number : ℕ) (o : outcome.Outcome ℕ) → (leaves_beat r limit o).answer ≡ outcome.refused number → (leaves_beat r limit o).rec ≡ r
beat_left r limit number (outcome.refused m) e = refl
beat_left r limit number (outcome.gives m) e = let z : ◌≡◌ {A = ℕ} 0 1 = cc in absurd (omega arith)

pub beat_refused_lem : (n : ℕ) → BeatRefused n
unfolding beat
beat_refused_lem n r limit number = beat_left r limit number (beating n r limit)

-- ---- writing to a lent buffer
written_left : (o : outcome.Outcome (List ℕ)) (buffer : List ℕ) (number : ℕ) → (outcome.writes o buffer).0 ≡ outcome.refused number → (outcome.writes o buffer).1 ≡ buffer
written_left (outcome.refused m) buffer number e = refl
written_left (outcome.gives o) buffer number e = let z : ◌≡◌ {A = ℕ} 0 1 = cc in absurd (omega arith)

into_left : (size : ℕ) (o : outcome.Outcome (List ℕ)) (buffer : List ℕ) (number : ℕ) → (into size o buffer).0 ≡ outcome.refused number → (into size o buffer).1 ≡ buffer
into_left size o buffer = written_left (refuse 1 when not (eqb (length buffer) size) otherwise o) buffer

pub building_refused : BuildingRefused
unfolding built
building_refused k x buffer = into_left most_octets (building k x) buffer

pub checksum_refused : ChecksumRefused
unfolding checksummed
checksum_refused k c p buffer = into_left most_checksum (checksum_octets k c p) buffer

piece_left : (o : outcome.Outcome split.Piece) (buffer : List ℕ) (number : ℕ) → (split.writes_part o buffer).answer ≡ outcome.refused number → (split.writes_part o buffer).buffer ≡ buffer
piece_left (outcome.refused m) buffer number e = refl
piece_left (outcome.gives x) buffer number e = let z : ◌≡◌ {A = ℕ} 0 1 = cc in absurd (omega arith)

pub writing_refused : WritingRefused
unfolding split.write_message
writing_refused k width reference p which buffer = piece_left (split.writing k width reference p which buffer) buffer

pub page_refused : PageRefused
unfolding split.write_page
page_refused serial identifier dcs p which buffer = piece_left (split.writing_page serial identifier dcs p which buffer) buffer

report_left : (o : outcome.Outcome (report.Going (List ℕ))) (buffer : List ℕ) (number : ℕ) → (report.writes_report o buffer).0 ≡ outcome.refused number → (report.writes_report o buffer).1 ≡ buffer
report_left (outcome.refused m) buffer number e = refl
report_left (outcome.gives report.nothing_goes) buffer number e = refl
report_left (outcome.gives report.submitted) buffer number e = refl
report_left (outcome.gives (report.in_report o)) buffer number e = let z : ◌≡◌ {A = ℕ} 0 1 = cc in absurd (omega arith)
report_left (outcome.gives (report.announced o)) buffer number e = let z : ◌≡◌ {A = ℕ} 0 1 = cc in absurd (omega arith)

pub report_refused : ReportRefused
unfolding report.write_report
report_refused edition spi capacity p buffer = report_left (report.reporting edition spi capacity p (length buffer)) buffer

pub salvaging_refused : SalvagingRefused
unfolding salvaging
salvaging_refused file output =
    written_left (refuse 24 when ltb most_capture (length file) otherwise refuse 1 when not (eqb (length output) (length file)) otherwise outcome.gives (salvaged file)) output

-- ---- USSD strings
pub ussd_writing_refused : UssdWritingRefused
unfolding ussd.written_ussd
ussd_writing_refused pfi x buffer = into_left ussd.most_string (ussd.writing_ussd pfi x) buffer

pub ussd_checksum_refused : UssdChecksumRefused
unfolding ussd.ussd_checksummed
ussd_checksum_refused um buffer = into_left most_checksum (ussd.ussd_checksum_octets um) buffer

nothing_read : {A : Type 0} (number : ℕ) (x : A) (y : List ℕ) (a b c d : Bool)
    → (refuse 2 when a otherwise refuse 5 when b otherwise refuse 9 when c otherwise refuse 15 when d otherwise outcome.gives x) ≡ outcome.refused number
    → shown (refuse 2 when a otherwise refuse 5 when b otherwise refuse 9 when c otherwise refuse 15 when d otherwise outcome.gives y) ≡ []
nothing_read number x y true b c d e = refl
nothing_read number x y false true c d e = refl
nothing_read number x y false false true d e = refl
nothing_read number x y false false false true e = refl
nothing_read number x y false false false false e = let z : ◌≡◌ {A = ℕ} 0 1 = cc in absurd (omega arith)

pub ussd_reading_refused : UssdReadingRefused
unfolding ussd.read_ussd ussd.shown_ussd_data ussd.shown_ussd_check ussd.shown_ussd_opaque
ussd_reading_refused pfi dcs s number e = record {
  secured = none (secured_of (ussd.um_fields (drop 1 s)));
  check = none (check_of (ussd.um_fields (drop 1 s)));
  opaque = none (opaque_of (ussd.um_fields (drop 1 s)));
}
  where
    none : (y : List ℕ) → shown (ussd.readable_ussd pfi dcs s (outcome.gives y)) ≡ []
    none y =
        nothing_read number (measured (ussd.um_fields (drop 1 s))) y (ltb ussd.most_string (length s)) (not (ussd.addressed pfi dcs s)) (not (ussd.um_formed (drop 1 s)))
        (against_check Command (ussd.um_fields (drop 1 s))) e

-- ---- judging a counter
table_left_lem : (c : Counters) (o : outcome.Outcome (ℕ × Counters)) (number : ℕ) → (or_leaves c o).answer ≡ outcome.refused number → (or_leaves c o).counters ≡ c
table_left_lem c (outcome.refused m) number e = refl
table_left_lem c (outcome.gives x) number e = let z : ◌≡◌ {A = ℕ} 0 1 = cc in absurd (omega arith)

pub judging_refused : JudgingRefused
unfolding judge_counter
judging_refused c p =
    table_left_lem c (readable Command (ciphered_command p) p (refuse 10 when ciphered_command p otherwise refuse 19 when unfit_counters c otherwise outcome.gives (judged_by c p)))

-- ---- a command that was sent, a response that came
stays : {A : Type 0} (t : Outstanding) (o : outcome.Outcome (A × Outstanding)) (number : ℕ) → (gateway.or_stays t o).0 ≡ outcome.refused number → (gateway.or_stays t o).1 ≡ t
stays t (outcome.refused m) number e = refl
stays t (outcome.gives x) number e = let z : ◌≡◌ {A = ℕ} 0 1 = cc in absurd (omega arith)

pub sending_refused : SendingRefused
unfolding gateway.command_sent
sending_refused t c =
    stays t
    (refuse 1 when gateway.unfit_table t otherwise refuse 22 when gateway.among c (gateway.awaited t) otherwise refuse 21 when leb 8 t.count otherwise
    outcome.gives (tt, gateway.with_command t c))

pub closing_refused : ClosingRefused
unfolding gateway.response_came
closing_refused t sender p =
    let c = gateway.answered_by sender p in
    stays t
    (refuse 1 when gateway.unfit_table t otherwise readable Response false p
    (refuse 23 when not (gateway.among c (gateway.awaited t)) otherwise outcome.gives (gateway.fate_by (report.announces_another (report.status_of p)) t c)))

-- ---- parsing
nothing : {A : Type 0} (number : ℕ) (x : A) (y : List ℕ) (a b c : Bool)
    → (refuse 9 when a otherwise refuse 12 when b otherwise refuse 15 when c otherwise outcome.gives x) ≡ outcome.refused number
    → shown (refuse 9 when a otherwise refuse 12 when b otherwise refuse 15 when c otherwise outcome.gives y) ≡ []
nothing number x y true b c e = refl
nothing number x y false true c e = refl
nothing number x y false false true e = refl
nothing number x y false false false e = let z : ◌≡◌ {A = ℕ} 0 1 = cc in absurd (omega arith)

pub parsing_refused : ParsingRefused
unfolding parsing shown_data shown_check shown_opaque
parsing_refused k c p number e = record {
  secured = none (secured_of (fields_of k c p));
  check = none (check_of (fields_of k c p));
  opaque = none (opaque_of (fields_of k c p));
}
  where
    none : (y : List ℕ) → shown (readable k c p (outcome.gives y)) ≡ []
    none y = nothing number (measured (fields_of k c p)) y (not (well_formed k p)) (ltb most_octets (length p)) (against_check k (fields_of k c p)) e

pub announcing_refused : AnnouncingRefused
unfolding parsing report.response_announces
announcing_refused p number =
    still_refused number (measured (fields_of Response false p)) (outcome.gives (report.announces_another (report.status_of p))) (not (well_formed Response p)) (ltb most_octets (length p))

-- ---- bad buffers and records
unfit_into : (size : ℕ) (o : outcome.Outcome (List ℕ)) (buffer : List ℕ) → (length buffer ≡ size → ⊥) → into size o buffer ≡ outcome.lent (outcome.refused 1) buffer
unfit_into size o buffer ne = rw (ne_eqb (length buffer) size ne)

pub unfit_refused : (n : ℕ) → UnfitRefused n
unfolding beat built checksummed ussd.written_ussd ussd.ussd_checksummed split.writing split.write_message split.writing_page split.write_page report.reporting report.write_report
unfit_refused n = record {
  taking_cells = λ s i ne. unfit_taken n s i (rw (ne_eqb (length s.cells) (cells_size n) ne));
  taking_output = λ s i ne. unfit_taken n s i (rw (ne_eqb (length s.output) most_octets ne, or-true (not (eqb (length s.cells) (cells_size n)))));
  taking_record = λ s i e. unfit_taken n s i (rw (e, or-true (not (eqb (length s.cells) (cells_size n)) || not (eqb (length s.output) most_octets))));
  beating = λ r limit f. rw f;
  building = λ k x buffer. unfit_into most_octets (building k x) buffer;
  checksum_octets_lem = λ k c p buffer. unfit_into most_checksum (checksum_octets k c p) buffer;
  writing_user_data = λ k width reference p which buffer ne. rw (ne_eqb (length buffer) most_user_data ne);
  writing_a_page = λ serial identifier dcs p which buffer ne. rw (ne_eqb (length buffer) page_octets ne);
  writing_a_report = λ edition spi capacity p buffer ne. rw (ne_eqb (length buffer) report.most_report ne);
  salvaging_a_capture = λ file output. (salvages_or_refuses file output).one;
  writing_ussd_lem = λ pfi x buffer. unfit_into ussd.most_string (ussd.writing_ussd pfi x) buffer;
  ussd_checksum_octets_lem = λ um buffer. unfit_into most_checksum (ussd.ussd_checksum_octets um) buffer;
  put = λ o at p l. (lt-leb (at + length p) (length o) l, rw (lt-leb (at + length p) (length o) l));
}

-- ---- making a record
none_formed : (n : ℕ) (k : Kind) (b : Bool) → record_formed n (fresh_record 0 k) ≡ b → b ≡ false
none_formed n k false e = refl
none_formed n k true e =
    let (z, f) = both (eqb 0 n) (slots_formed n k (fresh_record 0 k).slots) e in
    let low = (formed_tells n k (fresh_record 0 k).slots f).low in absurd (omega (arith, eqb-true 0 n z))

pub making_refused : MakingRefused
making_refused = record {
  made = λ n k good. rw (number_told n good.some good.most);
  refused_by_lem = λ n k other. refuses n k other (is_slot_number n) refl;
  accepted = λ n k good. rw (eq-eqb n n refl) (formed_told n k (fresh_record n k).slots (fresh_formed n k good.some good.most));
  no_call = λ k cells output i. (unfit_refused 0).taking_record (state (fresh_record 0 k) cells output) i (none_formed 0 k (record_formed 0 (fresh_record 0 k)) refl);
  never_formed = λ n k. none_formed n k (record_formed n (fresh_record 0 k)) refl;
}
  where
    refuses : (n : ℕ) (k : Kind) → (Slots n → ⊥) → (b : Bool) → is_slot_number n ≡ b
        → cond b (beside (outcome.gives tt) (fresh_record n k)) (beside (outcome.refused 25) (fresh_record 0 k)) ≡ beside (outcome.refused 25) (fresh_record 0 k)
    refuses n k other true e = let (low, high) = number_tells n e in absurd (other (record { some = low; most = high }))
    refuses n k other false e = refl
