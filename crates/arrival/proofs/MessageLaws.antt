-- The bounds of what a message gives: what a well-formed record can hold.
use Rattle.std.specs.Prelude.{ℕ, ◌+◌, ◌*◌, ◌≤◌, ◌≡◌, List, Bool, true, false, cond, ◌||◌, length, drop, eqb, ltb}
use Rattle.std.proofs.Math.Path.{refl}
use Rattle.std.proofs.Common.{sym, ◌∙◌, subst, arith, length-take-le}
use Rattle.std.proofs.Math.Bool.{not}
use Rattle.std.proofs.Math.Option.{some}
use Rattle.std.proofs.Math.ListN.{length-drop}
use borrow.Author.Tests.{eqb-false, ne_eqb, ltb-false, le-leb, not-true}
use Rattle.octets.specs.Tests.{neither}
use Rattle.types.specs.declared.Kind.{Kind}
use Rattle.types.specs.declared.Kind.TheVariants.{Command, Response}
use Rattle.types.specs.Refusals.{gives, refuse◌when◌otherwise◌}
use Rattle.packet.specs.Packets.{differ}
use Rattle.octets.specs.Octets.{Octets}
use Rattle.header.specs.declared.Concatenation.{Concatenation}
use Rattle.header.specs.declared.Seen.{Seen}
use Rattle.header.specs.Laws.{by_number}
use Rattle.arrival.specs.Arrivals.{Brought, single, part}
use Rattle.header.specs.Header.{no_concatenation, summary}
use Rattle.arrival.specs.Message.{most_user_data, udhl, header_octets, after_header, alone, own, foreign, opens, misplaced, most_parts, message_key, judged, read_message}
use Rattle.arrival.specs.Keys.{reference_fits, room, of_pages, key_formed, length_fits}
use Rattle.types.specs.declared.Key.{Key}
use Rattle.arrival.specs.Bounds.{space_of, elements_taken, Says, HasWidth, bit, cost, by_width, MessageRead, message_read, spent, OctetsIn, octets_header, octets_in_lem, items_say, has_width, not_refused, gives_same}
use Rattle.arrival.specs.Laws.{Admitted}

-- ---- by cases
by_bool : (P : Bool → Type 0) (b : Bool) → (b ≡ true → P true) → (b ≡ false → P false) → P b
by_bool P true t f = t refl
by_bool P false t f = f refl

-- ---- what was tested where something is given
record Judged (k : Kind) (sender start : ℕ) (s : Seen) (x : Brought) : Type 0 where
  pub right : s.wrong ≡ false
  pub placed : misplaced k s ≡ false
  pub verdict : cond (alone s.concatenation) (gives (single start))
      (refuse 6 when ltb most_parts s.concatenation.total otherwise
      gives (part (message_key sender s.concatenation) s.concatenation.total s.concatenation.number start)) ≡ gives x

judged_given : (k : Kind) (sender start : ℕ) (s : Seen) (x : Brought) → judged k sender start s ≡ gives x → Judged k sender start s x
unfolding judged
judged_given k sender start s x e =
    let (right, e₁) = not_refused 4 s.wrong _ x e in
    let (placed, e₂) = not_refused 5 (misplaced k s) _ x e₁ in
    record { right = right; placed = placed; verdict = e₂ }

-- a single message or part 1 bears a packet identifier
opening_bears : (k : Kind) (s : Seen) → misplaced k s ≡ false → opens s.concatenation ≡ true → 1 ≤ bit s.command + bit s.response
opening_bears k s m o = go k (same (opens s.concatenation) (own k s) (neither (foreign k s) (differ (opens s.concatenation) (own k s)) m).1)
  where
    same : (a b : Bool) → differ a b ≡ false → a ≡ b
    same true true e = refl
    same false b e = sym e
    same true false e = let z : ◌≡◌ {A = ℕ} 0 1 = cc in absurd (omega arith)

    go : (k : Kind) → opens s.concatenation ≡ own k s → 1 ≤ bit s.command + bit s.response
    go Command e = let t : s.command ≡ true = sym e ∙ o in rw t (omega arith)
    go Response e = let t : s.response ≡ true = sym e ∙ o in rw t (omega arith)

-- ---- a message that is given
-- a message that does not stand alone is one of two parts at least
pub not_alone : (c : Concatenation) → alone c ≡ false → (2 ≤ c.total) × (1 ≤ c.number) × (c.number ≤ c.total)
not_alone c several =
    let (ignored, one) = neither (eqb c.total 0 || eqb c.number 0 || ltb c.total c.number) (eqb c.total 1) several in
    let (zeros, above) = neither (eqb c.total 0 || eqb c.number 0) (ltb c.total c.number) ignored in
    let (no-total, no_number) = neither (eqb c.total 0) (eqb c.number 0) zeros in
    (omega (arith, eqb-false c.total 0 no-total, eqb-false c.total 1 one), omega (arith, eqb-false c.number 0 no_number), ltb-false c.total c.number above)

pub some_total : (n : ℕ) (b : Bool) → 2 ≤ n → eqb n 0 || b ≡ true → b ≡ true
some_total n b l s = let z : (n ≡ 0 → ⊥) = λ e. omega arith in rw (ne_eqb n 0 z) at s

-- UDHL, a concatenation element, in part 1 a packet identifier and the room of a part are the whole user data
pub room_fills : (w number n : ℕ) → reference_fits w n ≡ true → 1 + cost w + 2 * bit (eqb number 1) + room w number ≡ most_user_data
room_fills w number n e =
    let P : ℕ → ℕ → Type 0 = λ w number. 1 + cost w + 2 * bit (eqb number 1) + room w number ≡ most_user_data in
    by_width (λ w. P w number) w n e (by_number (P 8) number 1 refl λ later. rw later) (by_number (P 16) number 1 refl λ later. rw later)

-- what is left for a message's own octets, behind a concatenation element and, where one is borne, a packet identifier
module _ (k : Kind) (sender : ℕ) (ud : List ℕ) (x : Brought) (r : MessageRead k sender ud x) where
  abbrev seen : Seen
  seen = summary r.es

  verdict : Judged k sender (after_header ud) seen x
  verdict = judged_given k sender (after_header ud) seen x r.verdict

  header_taken : space_of r.es ≡ udhl ud
  header_taken = elements_taken (header_octets ud) r.es r.readable ∙ length-take-le (udhl ud) (drop 1 ud) (simp length-drop (omega (arith, r.inside)))

  left : length (drop (after_header ud) ud) + cost seen.concatenation.width + 2 * bit seen.command + 2 * bit seen.response ≤ 139
  unfolding summary
  left = omega (arith, spent r.es no_concatenation verdict.right, header_taken, length-drop (after_header ud) ud)

  seen_says : Octets ud → Says seen.concatenation
  unfolding summary
  seen_says b =
      let f : OctetsIn (some r.es) = rw r.readable at (octets_in_lem 0 (header_octets ud) (octets_header ud b)) in
      items_say r.es f

  seen_width : HasWidth seen.concatenation
  unfolding summary
  seen_width = has_width r.es

  -- what is known of the concatenation of a part
  pub record Several (c : Concatenation) : Type 0 where
    pub several : alone c ≡ false
    pub most : c.total ≤ most_parts
    pub fits : Octets ud → Says c
    pub width : HasWidth c
    pub room : length (drop (after_header ud) ud) + cost c.width + 2 * bit (eqb c.number 1) ≤ 139

  opening : opens seen.concatenation ≡ true → 1 ≤ bit seen.command + bit seen.response
  opening = opening_bears k seen verdict.placed

  first_bears : alone seen.concatenation ≡ false → bit (eqb seen.concatenation.number 1) ≤ bit seen.command + bit seen.response
  first_bears q =
      by_bool (λ b. bit b ≤ bit seen.command + bit seen.response) (eqb seen.concatenation.number 1)
      (λ e. opening (rw (q, e))) (λ _. omega arith)

  -- what holds of a single message with room for the identifier's element, and of such a part, holds of what is given
  pub given_as : (P : Brought → Type 0) → (length (drop (after_header ud) ud) ≤ 137 → P (single (after_header ud)))
      → ((c : Concatenation) → Several c → P (part (message_key sender c) c.total c.number (after_header ud))) → P x
  given_as P sole several = go (alone seen.concatenation) refl verdict.verdict
    where
      go : (b : Bool) → alone seen.concatenation ≡ b
          → cond b (gives (single (after_header ud)))
          (refuse 6 when ltb most_parts seen.concatenation.total otherwise
          gives (part (message_key sender seen.concatenation) seen.concatenation.total seen.concatenation.number (after_header ud))) ≡ gives x
          → P x
      go true q e = subst P (gives_same e) (sole (omega (arith, left, opening (rw q))))
      go false q e =
          let (m, f) = not_refused 6 (ltb most_parts seen.concatenation.total) _ x e in
          subst P (gives_same f) (several seen.concatenation (record {
            several = q;
            most = ltb-false most_parts seen.concatenation.total m;
            fits = seen_says;
            width = seen_width;
            room = omega (arith, left, first_bears q);
          }))

-- ---- the bounds of a message that is given
module _ (k : Kind) (sender : ℕ) (c : Concatenation) (o : List ℕ) where
  admitted_message : Says c → alone c ≡ false → c.total ≤ most_parts → length o + cost c.width + 2 * bit (eqb c.number 1) ≤ 139
      → Admitted k (message_key sender c) c.total c.number o
  unfolding key_formed length_fits
  admitted_message s several most room-left =
      let (l, m, h) = not_alone c several in
      let fits : reference_fits c.width c.reference ≡ true = some_total c.total (reference_fits c.width c.reference) l s in
      let no_page : eqb c.width 0 ≡ false = by_width (λ w. eqb w 0 ≡ false) c.width c.reference fits refl refl in
      record {
        key_formed = rw (no_page, fits);
        total_fits = rw (no_page, le-leb _ _ l, le-leb _ _ most);
        low = m;
        high = h;
        length_fits = rw no_page (le-leb (length o) (room c.width c.number) (omega (arith, room_fills c.width c.number c.reference fits)));
      }

-- a part's key is no page's
width_told : (c : Concatenation) → alone c ≡ false → HasWidth c → eqb c.width 0 ≡ false
width_told c several w =
    let (l, m, h) = not_alone c several in
    not-true (eqb c.width 0) (some_total c.total (not (eqb c.width 0)) l w)

-- what a message brings, case by case
abbrev FromMessage : Kind → ℕ → List ℕ → Brought → Type 0
FromMessage k sender ud (single start) = (start ≤ length ud) × (length (drop start ud) ≤ 137)
FromMessage k sender ud (part key total number start) =
    (start ≤ length ud) × (key.sender ≡ sender) × (of_pages key ≡ false) × (Octets ud → Admitted k key total number (drop start ud))

from_message : (k : Kind) (sender : ℕ) (ud : List ℕ) (x : Brought) → read_message k sender ud ≡ gives x → FromMessage k sender ud x
from_message k sender ud x given =
    let r : MessageRead k sender ud x = message_read k sender ud x given in
    given_as k sender ud x r (FromMessage k sender ud) (λ room. (omega arith, room))
    λ c s. (omega arith, refl, width_told c s.several s.width, λ b. admitted_message k sender c (drop (after_header ud) ud) (s.fits b) s.several s.most s.room)

module _ (k : Kind) (sender : ℕ) (ud : List ℕ) where
  -- a part of a message
  module _ (key : Key) (total number start : ℕ) (given : read_message k sender ud ≡ gives (part key total number start)) where
    -- where ud holds octets
    pub message_part : Octets ud → Admitted k key total number (drop start ud)
    message_part = (from_message k sender ud (part key total number start) given).3

    pub message_start : start ≤ length ud
    message_start = (from_message k sender ud (part key total number start) given).0

    pub message_sender : key.sender ≡ sender
    message_sender = (from_message k sender ud (part key total number start) given).1

    pub message_key_lem : of_pages key ≡ false
    message_key_lem = (from_message k sender ud (part key total number start) given).2

  -- a single message bears the packet identifier
  module _ (start : ℕ) (given : read_message k sender ud ≡ gives (single start)) where
    pub message_single : length (drop start ud) ≤ 137
    message_single = (from_message k sender ud (single start) given).1

    pub single_start : start ≤ length ud
    single_start = (from_message k sender ud (single start) given).0
