-- What the proofs of `heard` and `abi` cite, over plain variables. Of each sort of answer: what a known answer is heard as, and that its refusal is heard by its number.
use Rattle.std.specs.declared.result.Result.{Result}
use Rattle.std.specs.declared.option.Option as option
use Rattle.std.specs.declared.result.Result.TheVariants.{Ok, Err}
use Rattle.std.specs.Prelude.{ℕ, ◌+◌, ◌<◌, ◌≤◌, ◌≡◌, Bool, true, false, cond, List, [], ◌∷◌, ◌++◌, get_or, replicate}
use Rattle.std.proofs.Common.{ap, ◌∙◌, rules, eq-eqb, ne_eqb, lt-ltb, le-ltb}
use Rattle.types.specs.declared.Kind.{Kind}
use Rattle.types.specs.declared.Kind.TheVariants.{Command, Response}
use Rattle.types.specs.declared.Refusal.{Refusal}
use Rattle.types.specs.declared.WrittenPart as part
use Rattle.types.specs.declared.Arrival as arrival
use Rattle.types.specs.declared.Answer as answer
use Rattle.types.specs.declared.Outgoing as outgoing
use Rattle.types.specs.declared.Captured.{Captured}
use Rattle.types.specs.declared.SkippedRun.{SkippedRun}
use Rattle.types.specs.declared.Clear.{Clear}
use Rattle.types.specs.declared.CommandBody.{CommandBody}
use Rattle.types.specs.declared.ResponseBody.{ResponseBody}
use Rattle.types.specs.declared.Tar.{Tar}
use Rattle.types.specs.declared.Cntr.{Cntr}
use Rattle.types.specs.declared.Command as commands
use Rattle.types.specs.declared.Response as responses
use Rattle.types.specs.Refusals.{Outcome, gives, refusal_number, Lent, told_written}
use Rattle.packet.specs.Told.{tar_octets, clear_octets, counter_octets, command_fixed, response_fixed, command_fields, response_fields, told_command, told_response}
use Rattle.packet.specs.Packets.{before, chl, Fields, plain, ciphered, fields_of, readable, Parsed, built}
use Rattle.packet.specs.Judging.{told_judged, judged_refused, judged_readable}
use Rattle.arrival.specs.Arrivals.{Brought, told_arrival}
use Rattle.split.specs.Splitting as split
use Rattle.slots.specs.Slots.{told_making}
use Rattle.beats.specs.Beats.{told_beating}
use Rattle.series.specs.Taking.{Answer, told_answer}
use Rattle.report.specs.Reporting.{Going, Reported, told_outgoing, told_announcing}
use Rattle.ussd.specs.Ussd.{written_ussd}
use Rattle.layout.specs.Layout.{kind_in, on_state, making_state}
use Rattle.sound.specs.Card.{beat_in}
use Rattle.card.specs.Card.{TakenState, taken_state}
use Rattle.heard.specs.Given.{octet_in, tar_given, clear_given, response_given, command_given}
use Rattle.heard.specs.Heard.{heard_nothing, heard_test, heard_number, heard_written, heard_part, heard_piece, heard_brought, heard_taken, heard_made, heard_beaten, heard_state, numbers_heard, heard_parsed, places_of, heard_places, heard_going, heard_report, heard_announcing, heard_run, heard_captured}

-- ---- what the caller gives
pub kind_command : (k : ℕ) → k ≡ 0 → Command ≡ kind_in k
kind_command k e = rw (eq-eqb k 0 e)

pub kind_response : (k : ℕ) → (k ≡ 0 → ⊥) → Response ≡ kind_in k
kind_response k e = rw (ne_eqb k 0 e)

pub octet_over : (n : ℕ) → 255 < n → 0 ≡ octet_in n
octet_over n l = rw (lt-ltb 255 n l)

pub octet_fits : (n : ℕ) → n ≤ 255 → n ≡ octet_in n
octet_fits n l = rw (le-ltb 255 n l)

pub same_cons : (a b : ℕ) (l m : List ℕ) → a ≡ b → l ≡ m → a ∷ l ≡ b ∷ m
same_cons a b l m e f = rw (e, f)

pub command_front : (o : List ℕ) (x : Clear) (n : Cntr) (m : ℕ) → clear_octets x ≡ clear_given o → counter_octets n [] ≡ get_or o 7 0 ∷ get_or o 8 0 ∷ get_or o 9 0 ∷ get_or o 10 0 ∷ get_or o 11 0 ∷ []
    → m ≡ get_or o 12 0 → command_fixed x n m ≡ command_given o
command_front o x n m e f i =
    ap (λ l. l ++ counter_octets n (m ∷ [])) e ∙ ap (λ l. clear_given o ++ (l ++ (m ∷ []))) f ∙ ap (λ q. clear_given o ++ (get_or o 7 0 ∷ get_or o 8 0 ∷ get_or o 9 0 ∷ get_or o 10 0 ∷ get_or o 11 0 ∷ q ∷ [])) i

pub response_front : (o : List ℕ) (t : Tar) (n : Cntr) (m s : ℕ) → tar_octets t ≡ tar_given o → counter_octets n [] ≡ get_or o 3 0 ∷ get_or o 4 0 ∷ get_or o 5 0 ∷ get_or o 6 0 ∷ get_or o 7 0 ∷ []
    → m ≡ get_or o 8 0 → s ≡ get_or o 9 0 → response_fixed t n m s ≡ response_given o
response_front o t n m s e f i j =
    ap (λ l. l ++ counter_octets n (m ∷ s ∷ [])) e ∙ ap (λ l. tar_given o ++ (l ++ (m ∷ s ∷ []))) f ∙ ap (λ q. tar_given o ++ (get_or o 3 0 ∷ get_or o 4 0 ∷ get_or o 5 0 ∷ get_or o 6 0 ∷ get_or o 7 0 ∷ q ∷ s ∷ [])) i
    ∙ ap (λ q. tar_given o ++ (get_or o 3 0 ∷ get_or o 4 0 ∷ get_or o 5 0 ∷ get_or o 6 0 ∷ get_or o 7 0 ∷ get_or o 8 0 ∷ q ∷ [])) j

pub plain_same : (f g check secured : List ℕ) → f ≡ g → plain f check secured ≡ plain g check secured
plain_same f g check secured e = rw e

pub ciphered_same : (f g : List ℕ) (header : ℕ) (opaque : List ℕ) → f ≡ g → ciphered f header opaque ≡ ciphered g header opaque
ciphered_same f g header opaque e = rw e

-- ---- an answer that is known
pub written_known : (x v : Result ℕ Refusal) (p : ℕ × ℕ) → x ≡ v → p ≡ heard_number (told_written v) → p ≡ heard_number (told_written x)
written_known x v p e f = rw e f

pub part_known : (x v : Result part.WrittenPart Refusal) (p : ℕ × List ℕ) → x ≡ v → p ≡ heard_part (split.told v) → p ≡ heard_part (split.told x)
part_known x v p e f = rw e f

pub arrival_known : (x v : Result arrival.Arrival Refusal) (p : ℕ × List ℕ) → x ≡ v → p ≡ heard_brought (told_arrival v) → p ≡ heard_brought (told_arrival x)
arrival_known x v p e f = rw e f

pub answer_known : (x v : Result answer.Answer Refusal) (p : ℕ × List ℕ) → x ≡ v → p ≡ heard_taken (told_answer v) → p ≡ heard_taken (told_answer x)
answer_known x v p e f = rw e f

pub beating_known : (x v : Result ℕ Refusal) (p : ℕ × ℕ) → x ≡ v → p ≡ heard_number (told_beating v) → p ≡ heard_number (told_beating x)
beating_known x v p e f = rw e f

pub making_known : (x v : Result Unit Refusal) (n : ℕ) → x ≡ v → n ≡ heard_nothing (told_making v) → n ≡ heard_nothing (told_making x)
making_known x v n e f = rw e f

pub going_known : (x v : Result outgoing.Outgoing Refusal) (p : ℕ × List ℕ) → x ≡ v → p ≡ heard_going (told_outgoing v) → p ≡ heard_going (told_outgoing x)
going_known x v p e f = rw e f

pub announcing_known : (x v : Result Bool Refusal) (p : ℕ × ℕ) → x ≡ v → p ≡ heard_announcing (told_announcing v) → p ≡ heard_announcing (told_announcing x)
announcing_known x v p e f = rw e f

pub captured_known : (x v : option.Option Captured) (p : ℕ × List ℕ) → x ≡ v → p ≡ heard_captured v → p ≡ heard_captured x
captured_known x v p e f = rw e f

pub command_known : (c : Clear) (x v : CommandBody) (p : List ℕ × List ℕ) → x ≡ v → p ≡ numbers_heard Command (command_fields c v)
    → p ≡ numbers_heard Command (command_fields c x)
command_known c x v p e f = rw e f

pub response_known : (t : Tar) (x v : ResponseBody) (p : List ℕ × List ℕ) → x ≡ v → p ≡ numbers_heard Response (response_fields t v)
    → p ≡ numbers_heard Response (response_fields t x)
response_known t x v p e f = rw e f

pub answer_kept : (x : Result answer.Answer Refusal) (slot n : ℕ) (d : Bool) → x ≡ Ok (answer.TheVariants.Kept slot d) → n ≡ cond d 1 0
    → (0, 1 ∷ slot ∷ n ∷ 0 ∷ []) ≡ heard_taken (told_answer x)
answer_kept x slot n d e f = rw (e, f)

pub command_fields_lem : (x : Result commands.Command Refusal) (c : commands.Command) (p : List ℕ × List ℕ) → x ≡ Ok c
    → p ≡ numbers_heard Command (command_fields c.clear c.body) → (0, p) ≡ heard_parsed Command (told_command x)
command_fields_lem x c p e f = rw (e, f)

pub response_fields_lem : (x : Result responses.Response Refusal) (c : responses.Response) (p : List ℕ × List ℕ) → x ≡ Ok c
    → p ≡ numbers_heard Response (response_fields c.tar c.body) → (0, p) ≡ heard_parsed Response (told_response x)
response_fields_lem x c p e f = rw (e, f)

-- ---- the places of parts
pub place_known : (k v : Kind) (n : ℕ) → k ≡ v → n ≡ 3 + before v → n ≡ 3 + before k
place_known k v n e f = rw e f

pub places_opaque : (k : Kind) (c : Bool) (p l : List ℕ) → c ≡ true → l ≡ places_of k 3 (chl p) (fields_of k true p) → l ≡ places_of k 3 (chl p) (fields_of k c p)
places_opaque k c p l e f = rw e f

pub places_plain : (k : Kind) (c : Bool) (p l : List ℕ) → c ≡ false → l ≡ places_of k 3 (chl p) (fields_of k false p) → l ≡ places_of k 3 (chl p) (fields_of k c p)
places_plain k c p l e f = rw e f

module _ (k : Kind) (c : Bool) (p : List ℕ) (j : Result ℕ Refusal) (e : told_judged j ≡ readable k c p (gives (chl p))) where
  pub places_refused : (why : Refusal) (r : ℕ) → j ≡ Err why → r ≡ refusal_number why → (r, replicate 6 0) ≡ heard_places k c p
  places_refused why r t n = rw (← judged_refused k c p j e why t (gives (fields_of k c p)), n)

  pub places_shown : (h : ℕ) (l : List ℕ) → j ≡ Ok h → l ≡ places_of k 3 (chl p) (fields_of k c p) → (0, l) ≡ heard_places k c p
  places_shown h l t f = rw (← judged_readable k c p j e h t (gives (fields_of k c p)), f)

-- ---- a refusal
module _ (why : Refusal) (r : ℕ) (n : r ≡ refusal_number why) where
  pub written_refused : (x : Result ℕ Refusal) → x ≡ Err why → (r, 0) ≡ heard_number (told_written x)
  written_refused x e = rw (e, n)

  pub part_refused : (x : Result part.WrittenPart Refusal) → x ≡ Err why → (r, replicate 2 0) ≡ heard_part (split.told x)
  part_refused x e = rw (e, n)

  pub arrival_refused : (x : Result arrival.Arrival Refusal) → x ≡ Err why → (r, replicate 9 0) ≡ heard_brought (told_arrival x)
  arrival_refused x e = rw (e, n)

  pub answer_refused : (x : Result answer.Answer Refusal) → x ≡ Err why → (r, replicate 4 0) ≡ heard_taken (told_answer x)
  answer_refused x e = rw (e, n)

  pub beating_refused : (x : Result ℕ Refusal) → x ≡ Err why → (r, 0) ≡ heard_number (told_beating x)
  beating_refused x e = rw (e, n)

  pub making_refused : (x : Result Unit Refusal) → x ≡ Err why → r ≡ heard_nothing (told_making x)
  making_refused x e = rw (e, n)

  pub going_refused : (x : Result outgoing.Outgoing Refusal) → x ≡ Err why → (r, replicate 2 0) ≡ heard_going (told_outgoing x)
  going_refused x e = rw (e, n)

  pub announcing_refused : (x : Result Bool Refusal) → x ≡ Err why → (r, 0) ≡ heard_announcing (told_announcing x)
  announcing_refused x e = rw (e, n)

  pub command_refused : (x : Result commands.Command Refusal) → x ≡ Err why
      → (r, (replicate 13 0, replicate 3 0)) ≡ heard_parsed Command (told_command x)
  command_refused x e = rw (e, n)

  pub response_refused : (x : Result responses.Response Refusal) → x ≡ Err why
      → (r, (replicate 10 0, replicate 3 0)) ≡ heard_parsed Response (told_response x)
  response_refused x e = rw (e, n)

-- ---- with what was lent
pub written_heard : (w : Outcome ℕ) (b : List ℕ) (x : Lent) (p : ℕ × ℕ) → p ≡ heard_number w → (w, b) ≡ x → (p, b) ≡ heard_written x
written_heard w b x p e f = rw (← f, e)

pub built_heard : (k : Kind) (x y : Fields) (out b : List ℕ) (w : Outcome ℕ) (p : ℕ × ℕ) → p ≡ heard_number w → (w, b) ≡ built k x out → x ≡ y
    → (p, b) ≡ heard_written (built k y out)
built_heard k x y out b w p e f s = rw (← s) (written_heard w b (built k x out) p e f)

pub string_heard : (pfi : ℕ) (x y : Fields) (out b : List ℕ) (w : Outcome ℕ) (p : ℕ × ℕ) → p ≡ heard_number w → (w, b) ≡ written_ussd pfi x out → x ≡ y
    → (p, b) ≡ heard_written (written_ussd pfi y out)
string_heard pfi x y out b w p e f s = rw (← s) (written_heard w b (written_ussd pfi x out) p e f)

pub piece_heard : (w : Outcome split.Told) (b : List ℕ) (x : split.Written) (p : ℕ × List ℕ) → p ≡ heard_part w → split.written w b ≡ x → (p, b) ≡ heard_piece x
piece_heard w b x p e f = rw (← f, e)

pub report_heard : (w : Outcome (Going ℕ)) (b : List ℕ) (x : Reported) (p : ℕ × List ℕ) → p ≡ heard_going w → (w, b) ≡ x → (p, b) ≡ heard_report x
report_heard w b x p e f = rw (← f, e)

pub brought_heard : (o x : Outcome Brought) (p : ℕ × List ℕ) → p ≡ heard_brought o → o ≡ x → p ≡ heard_brought x
brought_heard o x p e f = rw (← f) e

pub announcing_heard : (o x : Outcome Bool) (p : ℕ × ℕ) → p ≡ heard_announcing o → o ≡ x → p ≡ heard_announcing x
announcing_heard o x p e f = rw (← f) e

pub parsed_heard : (k : Kind) (o x : Outcome Parsed) (p : ℕ × (List ℕ × List ℕ)) → p ≡ heard_parsed k o → o ≡ x → p ≡ heard_parsed k x
parsed_heard k o x p e f = rw (← f) e

pub captured_heard : (x y : option.Option Captured) (p : ℕ × List ℕ) → p ≡ heard_captured x → x ≡ y → p ≡ heard_captured y
captured_heard x y p e f = rw (← f) e

pub test_heard : (m r : ℕ) (b c : Bool) → r ≡ heard_test m b → b ≡ c → r ≡ heard_test m c
test_heard m r b c e f = rw (← f) e

-- ---- on a state
pub making_heard : (k k' : Kind) (n n' r : ℕ) (s t : List ℕ) (m : Outcome Unit) → r ≡ heard_nothing m → on_state m t ≡ making_state s n k → n ≡ n' → k ≡ k'
    → (r, t) ≡ heard_made (making_state s n' k')
making_heard k k' n n' r s t m e f i j = rw (← i, ← j, ← f, e)

pub beat_heard : (limit limit' : ℕ) (p : ℕ × ℕ) (s t : List ℕ) (b : Outcome ℕ) → p ≡ heard_number b → on_state b t ≡ beat_in s limit → limit ≡ limit'
    → (p, t) ≡ heard_beaten (beat_in s limit')
beat_heard limit limit' p s t b e f i = rw (← i, ← f, e)

pub take_heard : (x : TakenState) (p : ℕ × List ℕ) (a : Answer) (s cells output : List ℕ) → p ≡ heard_taken a → taken_state a s cells output ≡ x
    → (p, (s, (cells, output))) ≡ heard_state x
take_heard x p a s cells output e f = rw (← f, e)

pub run_heard : (x y : SkippedRun) → x ≡ y → heard_run x ≡ heard_run y
run_heard x y e = ap heard_run e

pub ruleset steps = (
  rules,
  kind_command,
  kind_response,
  octet_over,
  octet_fits,
  answer_kept,
  command_fields_lem,
  response_fields_lem,
  place_known,
  places_opaque,
  places_plain,
  places_refused,
  places_shown,
  written_known,
  part_known,
  arrival_known,
  answer_known,
  beating_known,
  making_known,
  going_known,
  announcing_known,
  captured_known,
  command_known,
  response_known,
  written_refused,
  part_refused,
  arrival_refused,
  answer_refused,
  beating_refused,
  making_refused,
  going_refused,
  announcing_refused,
  command_refused,
  response_refused,
  plain_same,
  ciphered_same,
  built_heard,
  string_heard,
  written_heard,
  piece_heard,
  report_heard,
  brought_heard,
  announcing_heard,
  parsed_heard,
  captured_heard,
  test_heard,
  making_heard,
  beat_heard,
  take_heard,
  run_heard,
)
