-- No case loses the response. What is in a report is what splitting writes of a packet that goes in one message, so it is read and handed out as
-- such; and what follows is split. The announcement is built of the response's own fields.
use Prim.Native.Nat.{ℕ, ◌%◌, ◌≤◌, ◌<◌}
use mathlib.Core.Path.{◌≡◌, refl, sym, ap, ◌∙◌, subst}
use mathlib.Core.Bool.{Bool, true, false, not, cond, or-true}
use mathlib.Core.List.{List, [], ◌∷◌, ◌++◌, append_assoc}
use native.Mathlib.Omega.{arith}
use lib.ListN.{length, get_or, take, drop, length-take, length-drop}
use lib.Seq.{take-take, get_or-take, get_or-drop}
use lib.Dec.{eqb, ltb, leb}
use borrow.Author.Tests.{eq-eqb, ne_eqb, lt-ltb, le-ltb}
use Rattle.octets.specs.Octets.{Octets}
use Rattle.octets.specs.Tests.{Same, same, other, same?}
use Rattle.types.specs.declared.Kind.TheVariants.{Response}
use Rattle.types.specs.declared.Tar.{Tar}
use Rattle.types.specs.declared.PlainResponse.{PlainResponse}
use Rattle.types.specs.declared.ResponseBody.TheVariants as response
use Rattle.types.specs.Refusals.{Outcome, refused, gives, refuse◌when◌otherwise◌}
use Rattle.packet.specs.Packets.{most_octets, well_formed, plain, fields_of, measured, parsing, building, packet_of}
use Rattle.packet.specs.Told.{response_fixed, response_fields}
use Rattle.packet.specs.Laws.{readable_formed}
use Rattle.packet.proofs.PacketLaws.{formed_facts, built_formed, built_parsed}
use Rattle.series.specs.Calls.{message}
use Rattle.split.specs.Splitting as split
use Rattle.split.specs.Laws.{one_part, part_whole}
use Rattle.split.proofs.PartsReadBack.{read_single}
use Rattle.report.specs.Reporting.{Going, nothing_goes, in_report, announced, submitted, asked, reserved, by_submit, least_report, most_report, no_capacity, report_of, status_of, before_status, announcing, going_out, known_edition, announced_by, reporting, reported, writes_report, write_report, announces_another, response_announces}
use Rattle.report.specs.Laws.{Asked, Unasked, Way, not_asked, for_submit, small, too_large, way_of, reporting_gives, announcing_octets, announcing_length}
use Rattle.trips.specs.Reports.{ReportRefusals, ReadAlone, Follows, with_status, ReachesServer, none_asked, carried, announces, parts_alone, NoneLostIn, NoneLost, old, present, NoneLostEither, Alike, equal, but_one, EditionsAlike, EitherAccepted}
use Rattle.trips.proofs.RoundTrips.{parsed_is_formed, builds_or_refuses}
use Rattle.sequences.proofs.Written.{done, and, small_octets, octets_small, append_small, take_small, drop_small}
use Rattle.sequences.specs.Runs.{Slots}
use Rattle.sequences.proofs.Delivery.{messages_delivered, messages_written}

-- a packet that parsing refuses is refused by every rule that begins with the same tests
pub still_refused : {A B : Type 0} (number : ℕ) (x : A) (o : Outcome B) (a b : Bool) → (refuse 9 when a otherwise refuse 12 when b otherwise gives x) ≡ refused number
    → (refuse 9 when a otherwise refuse 12 when b otherwise o) ≡ refused number
still_refused number x o true b e = cc
still_refused number x o false true e = cc
still_refused number x o false false e = let z : ◌≡◌ {A = ℕ} 0 1 = cc in absurd (omega arith)

-- ---- when a call is refused
known : (edition : ℕ) → edition ≤ 1 → known_edition edition ≡ true
known edition l = go (same? edition 0)
  where
    go : Same edition 0 → known_edition edition ≡ true
    go (same e p) = rw e
    go (other e n) = rw (e, eq-eqb edition 1 (omega arith))

pub report_refusals : (edition spi capacity : ℕ) (p buffer : List ℕ) → ReportRefusals edition spi capacity p buffer
unfolding write_report reporting
report_refusals edition spi capacity p buffer = record {
  one = λ n. rw (ne_eqb (length buffer) 140 n);
  sixteen_below = λ l c. rw (eq-eqb (length buffer) 140 l, lt-ltb capacity 16 c);
  sixteen_above = λ l c. rw (eq-eqb (length buffer) 140 l, lt-ltb 140 capacity c, or-true (ltb capacity 16));
  twenty = λ l a b k. rw (eq-eqb (length buffer) 140 l, le-ltb capacity 16 a, le-ltb 140 capacity b, ne_eqb edition 0 (λ e. omega arith), ne_eqb edition 1 (λ e. omega arith));
  nine = λ l a b k f. rw (eq-eqb (length buffer) 140 l, le-ltb capacity 16 a, le-ltb 140 capacity b, known edition k, f);
  twelve = λ l a b k f m. rw (eq-eqb (length buffer) 140 l, le-ltb capacity 16 a, le-ltb 140 capacity b, known edition k, f, lt-ltb 2142 (length p) m);
  seventeen = λ l a b k f m e.
      rw (eq-eqb (length buffer) 140 l, le-ltb capacity 16 a, le-ltb 140 capacity b, known edition k, f, le-ltb 2142 (length p) m, eq-eqb (spi % 4) 3 e);
}

-- ---- what is in a report
-- a packet behind 02 71 00 is what splitting writes of it, whatever the width, reference and number
as_split : (p : List ℕ) → length p ≤ split.most_single → split.user_data Response 8 0 p 1 ≡ report_of p
unfolding split.user_data
as_split p l = rw (one_part 8 (length p) l, part_whole 8 p 1 l)

module _ (n : ℕ) (pos : Slots n) (p : List ℕ) (octets : Octets p) (formed : well_formed Response p ≡ true) where
  read_alone : length p ≤ split.most_single → ReadAlone n (report_of p) p
  read_alone l =
      let one = one_part 8 (length p) l in
      record {
        alone = λ sender. rw (← as_split p l) (read_single Response 8 0 p 1 sender one);
        whole = refl;
        handed_out = λ sender cells earlier size before c is.
            (messages_delivered n pos Response sender 8 0 p octets formed refl (omega arith) cells earlier size before).at_once one c
            (is ∙ ap (message sender) (sym (as_split p l)));
      }

  follows : length p ≤ most_octets → Follows n p
  follows l = record {
    narrow = l;
    written = λ width reference. messages_written Response width reference p formed;
    handed_out = λ sender width reference. messages_delivered n pos Response sender width reference p octets formed;
  }

-- ---- the announcement
module _ (p : List ℕ) (t : Tar) (b : PlainResponse) (e : parsing Response false p ≡ gives (response_fields t (response.Plain b))) where
  -- the response is well formed, and its fields are those that parsing answered
  pub formed_size : (well_formed Response p ≡ true) × (length p ≤ most_octets)
  formed_size = let (formed, size, checked) = parsed_is_formed Response false p (response_fields t (response.Plain b)) e in (formed, size)

  pub fixed_is : take 10 (drop 3 p) ≡ response_fixed t b.cntr b.pcntr b.status
  unfolding parsing
  fixed_is =
      let z : gives (measured (fields_of Response false p)) ≡ gives (response_fields t (response.Plain b)) =
      sym (readable_formed Response false p (gives (measured (fields_of Response false p))) formed_size.0 formed_size.1 refl) ∙ e in
      cc

  pub status_is : status_of p ≡ b.status
  status_is =
      sym (get_or-take 10 (drop 3 p) 9 0 (omega arith) ∙ get_or-drop 3 p 9 0) ∙ ap (λ (f : List ℕ). get_or f 9 0) fixed_is

  module _ (status : ℕ) where
    new_fixed : before_status p ++ (status ∷ []) ≡ response_fixed t b.cntr b.pcntr status
    new_fixed = ap (λ (f : List ℕ). f ++ (status ∷ [])) (sym (take-take 9 10 (drop 3 p) (omega arith)) ∙ ap (take 9) fixed_is)

    new_built : building Response (plain (response_fixed t b.cntr b.pcntr status) [] []) ≡ gives (announcing status p)
    unfolding announcing packet_of
    new_built = rw new_fixed ((builds_or_refuses Response (plain (response_fixed t b.cntr b.pcntr status) [] [])).given refl refl refl (omega arith))

    new_formed : well_formed Response (announcing status p) ≡ true
    new_formed = (built_formed Response (plain (response_fixed t b.cntr b.pcntr status) [] []) (announcing status p) new_built refl).0

    new_parsed : parsing Response false (announcing status p) ≡ gives (response_fields t (response.Plain (with_status status b)))
    new_parsed = built_parsed Response (plain (response_fixed t b.cntr b.pcntr status) [] []) (announcing status p) new_built refl

    new_octets : Octets p → status < 256 → Octets (announcing status p)
    new_octets octets l =
        let f = formed_facts Response p formed_size.0 in
        subst Octets (sym (announcing_octets status p (omega arith)))
        (small_octets (and 0x00 (omega arith) (and 0x0B (omega arith) (and 0x0A (omega arith)
        (append_small (take_small 9 (drop_small 3 (octets_small p octets))) (and status l done))))))

-- ---- none is lost
module _ (n : ℕ) (pos : Slots n) (status : ℕ) (octet : status < 256) (spi capacity : ℕ) (p : List ℕ) (t : Tar) (b : PlainResponse) (buffer : List ℕ)
    (octets : Octets p) (e : parsing Response false p ≡ gives (response_fields t (response.Plain b))) (least : least_report ≤ capacity) (most : capacity ≤ most_report) where
  formed : (well_formed Response p ≡ true) × (length p ≤ most_octets)
  formed = formed_size p t b e

  each_way : (g : Going (List ℕ)) → Way status spi capacity p g → ReachesServer n status spi capacity p t b buffer (writes_report (gives g) buffer)
  each_way g (not_asked a) = none_asked (subst (Unasked spi) (status_is p t b e) a)
  each_way g (for_submit a s) = parts_alone (subst (Asked spi) (status_is p t b e) a) s (follows n pos p octets formed.0 formed.1)
  each_way g (small a s l) =
      carried (subst (Asked spi) (status_is p t b e) a) s (report_of p) (omega arith) (read_alone n pos p octets formed.0 (omega arith))
  each_way g (too_large a s l) =
      let f = formed_facts Response p formed.0 in
      let long : length (announcing status p) ≡ 13 = announcing_length status p (omega arith) in
      announces (subst (Asked spi) (status_is p t b e) a) s l (report_of (announcing status p)) (announcing status p) (omega arith)
      (read_alone n pos (announcing status p) (new_octets p t b e status octets octet) (new_formed p t b e status) (omega arith))
      (new_parsed p t b e status) (follows n pos p octets formed.0 formed.1)

none_lost_in : (n : ℕ) → Slots n → (edition status : ℕ) → known_edition edition ≡ true → announced_by edition ≡ status → status < 256 → NoneLostIn n edition status
unfolding write_report
none_lost_in n pos edition status is by octet spi capacity p t b buffer octets e lent least most free =
    let f = formed_size p t b e in
    subst (λ (o : Outcome (Going (List ℕ))). ReachesServer n status spi capacity p t b buffer (writes_report o buffer))
    (sym (reporting_gives status spi capacity p free edition (length buffer) is by lent least most f.0 f.1))
    (each_way n pos status octet spi capacity p t b buffer octets e least most (going_out status spi capacity p) (way_of status spi capacity p free))

pub none_lost_either : (n : ℕ) → Slots n → NoneLostEither n
none_lost_either n pos edition status old = none_lost_in n pos 0 0x08 refl refl (omega arith)
none_lost_either n pos edition status present = none_lost_in n pos 1 0x0B refl refl (omega arith)

pub none_lost : (n : ℕ) → Slots n → NoneLost n
none_lost n pos = none_lost_either n pos 1 0x0B present

-- ---- the editions
module _ (spi capacity : ℕ) (p buffer : List ℕ) where
  abbrev front : List ℕ
  front = 0x02 ∷ 0x71 ∷ 0x00 ∷ 0x00 ∷ 0x0B ∷ 0x0A ∷ before_status p

  -- what goes out, by the three tests of the rule
  abbrev chosen : Bool → Bool → Bool → ℕ → Going (List ℕ)
  chosen a b c status = cond a nothing_goes (cond b submitted (cond c (in_report (report_of p)) (announced (report_of (announcing status p)))))

  module _ (l : 12 ≤ length p) where
    front_long : length front ≡ 15
    front_long = simp (length-take, length-drop) (omega arith)

    announcement_is : (status : ℕ)
        → writes_report (gives (announced (report_of (announcing status p)))) buffer ≡ reported (gives (announced 16)) (front ++ (status ∷ drop 16 buffer))
    announcement_is status =
        let n : length (report_of (announcing status p)) ≡ 16 = omega (arith, announcing_length status p l) in
        ap (λ (m : ℕ). reported (gives (announced m)) (report_of (announcing status p) ++ drop m buffer)) n
        ∙ ap (λ (o : List ℕ). reported (gives (announced 16)) (report_of o ++ drop 16 buffer)) (announcing_octets status p l)
        ∙ ap (reported (gives (announced 16))) (append_assoc front (status ∷ []) (drop 16 buffer))

    by_tests : (a b c : Bool) → Alike (writes_report (gives (chosen a b c 0x08)) buffer) (writes_report (gives (chosen a b c 0x0B)) buffer)
    by_tests true b c = equal (reported (gives nothing_goes) buffer)
    by_tests false true c = equal (reported (gives submitted) buffer)
    by_tests false false true = equal (writes_report (gives (in_report (report_of p))) buffer)
    by_tests false false false = rw (announcement_is 0x08, announcement_is 0x0B) (but_one front (drop 16 buffer) front_long)

    going_alike : Alike (writes_report (gives (going_out 0x08 spi capacity p)) buffer) (writes_report (gives (going_out 0x0B spi capacity p)) buffer)
    unfolding going_out
    going_alike = by_tests (not (asked spi (status_of p))) (by_submit spi) (leb (length (report_of p)) capacity)

  chained : (a b w m r : Bool) → well_formed Response p ≡ w
      → let chain : ℕ → Outcome (Going (List ℕ)) = λ status.
      refuse 1 when a otherwise refuse 16 when b otherwise refuse 9 when not w otherwise refuse 12 when m otherwise refuse 17 when r otherwise
      gives (going_out status spi capacity p) in
      Alike (writes_report (chain 0x08) buffer) (writes_report (chain 0x0B) buffer)
  chained true b w m r f = equal (reported (refused 1) buffer)
  chained false true w m r f = equal (reported (refused 16) buffer)
  chained false false false m r f = equal (reported (refused 9) buffer)
  chained false false true true r f = equal (reported (refused 12) buffer)
  chained false false true false true f = equal (reported (refused 17) buffer)
  chained false false true false false f = let g = formed_facts Response p f in going_alike (omega arith)

pub editions_alike : EditionsAlike
unfolding write_report reporting
editions_alike spi capacity p buffer =
    chained spi capacity p buffer (not (eqb (length buffer) most_report)) (no_capacity capacity) (well_formed Response p) (ltb most_octets (length p)) (reserved spi) refl

-- ---- the receiver
pub either_accepted : EitherAccepted
unfolding response_announces
either_accepted p t b e = record {
  by_present = λ s. told ∙ rw (s);
  by_old = λ s. told ∙ rw (s);
  by_none = λ m n. told ∙ rw (ne_eqb b.status 0x0B m, ne_eqb b.status 0x08 n);
}
  where
    told : response_announces p ≡ gives (announces_another b.status)
    told =
        let f = formed_size p t b e in
        readable_formed Response false p (gives (announces_another (status_of p))) f.0 f.1 refl ∙ rw (status_is p t b e)
