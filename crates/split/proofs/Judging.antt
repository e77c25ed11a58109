-- Laws that the proofs about refusals cite: each return of `due`, and what a public call makes of the answer.
use Rattle.std.specs.declared.result.Result.{Result}
use Rattle.std.specs.declared.result.Result.TheVariants.{Ok, Err}
use Prim.Native.Nat.{ℕ, ◌≤◌, ◌<◌}
use mathlib.Core.Path.{◌≡◌, refl}
use mathlib.Core.Bool.{Bool, true, false, not}
use mathlib.Core.List.{List, []}
use native.Mathlib.Omega.{arith}
use lib.ListN.{length}
use lib.Dec.{eqb, ltb}
use borrow.Author.Tests.{not-true, not-false, ltb-false, eqb-true, eqb-false, lt-ltb, le-ltb, eq-eqb, ne_eqb}
use Rattle.octets.specs.Tests.{neither}
use Rattle.types.specs.declared.Kind.{Kind}
use Rattle.types.specs.declared.Kind.TheVariants.{Command}
use Rattle.types.specs.declared.Refusal.{Refusal}
use Rattle.types.specs.Refusals.{Outcome, refused, gives, refuse◌when◌otherwise◌, refusal_number}
use Rattle.packet.specs.Packets.{well_formed}
use Rattle.packet.proofs.PacketLaws.{formed_facts}
use Rattle.arrival.specs.Message.{most_user_data}
use Rattle.arrival.specs.Page.{page_octets, identifier_in_range}
use Rattle.arrival.specs.Keys.{reference_fits}
use Rattle.split.specs.Splitting.{Piece, written, writes_part, parts, most_split, no_such_part, user_data, writing, write_message, pages, page_written, most_pages, writing_page, write_page}
use Rattle.split.specs.Laws.{most_pages_lem}
use Rattle.split.proofs.PartLaws.{most_parts_lem}
use Rattle.split.specs.Within.{Writable, PageReady, Standing, told_due, judging, judging_page}

-- ---- the refusals of writing user data
module _ (k : Kind) (width reference : ℕ) (p : List ℕ) (number size : ℕ) where
  pub refused_buffer : (size ≡ 140 → ⊥) → refused 1 ≡ judging k width reference p number size
  refused_buffer n = rw (ne_eqb size 140 n)

  module _ (lent : size ≡ 140) (fits : Bool) (e : fits ≡ reference_fits width reference) where
    pub refused_reference : not fits ≡ true → refused 13 ≡ judging k width reference p number size
    refused_reference t = rw (eq-eqb size 140 lent, ← e, not-true fits t)

    module _ (t : not fits ≡ false) (w : Bool) (f : w ≡ well_formed k p) where
      pub refused_unformed : not w ≡ true → refused 9 ≡ judging k width reference p number size
      refused_unformed u = rw (eq-eqb size 140 lent, ← e, not-false fits t, ← f, not-true w u)

      module _ (u : not w ≡ false) (most : ℕ) (g : most ≡ most_split width) where
        pub refused_long : most < length p → refused 12 ≡ judging k width reference p number size
        refused_long l = rw (eq-eqb size 140 lent, ← e, not-false fits t, ← f, not-false w u, ← g, lt-ltb most (length p) l)

        module _ (l : length p ≤ most) (total : ℕ) (h : total ≡ parts width (length p)) (none : Bool) (i : none ≡ no_such_part total number) where
          pub refused_number : none ≡ true → refused 14 ≡ judging k width reference p number size
          refused_number v = rw (eq-eqb size 140 lent, ← e, not-false fits t, ← f, not-false w u, ← g, le-ltb most (length p) l, ← h, ← i, v)

          pub judged_total : none ≡ false → gives total ≡ judging k width reference p number size
          judged_total v = rw (eq-eqb size 140 lent, ← e, not-false fits t, ← f, not-false w u, ← g, le-ltb most (length p) l, ← h, ← i, v)

-- ---- the refusals of writing a page
module _ (identifier : ℕ) (p : List ℕ) (number size : ℕ) where
  pub refused_page_buffer : (size ≡ 88 → ⊥) → refused 1 ≡ judging_page identifier p number size
  refused_page_buffer n = rw (ne_eqb size 88 n)

  module _ (lent : size ≡ 88) (inside : Bool) (e : inside ≡ identifier_in_range identifier) where
    pub refused_identifier : not inside ≡ true → refused 5 ≡ judging_page identifier p number size
    refused_identifier t = rw (eq-eqb size 88 lent, ← e, not-true inside t)

    module _ (t : not inside ≡ false) (w : Bool) (f : w ≡ well_formed Command p) where
      pub refused_unformed_page : not w ≡ true → refused 9 ≡ judging_page identifier p number size
      refused_unformed_page u = rw (eq-eqb size 88 lent, ← e, not-false inside t, ← f, not-true w u)

      module _ (u : not w ≡ false) where
        pub refused_long_page : 1230 < length p → refused 12 ≡ judging_page identifier p number size
        refused_long_page l = rw (eq-eqb size 88 lent, ← e, not-false inside t, ← f, not-false w u, lt-ltb 1230 (length p) l)

        module _ (l : length p ≤ 1230) (total : ℕ) (h : total ≡ pages (length p)) (none : Bool) (i : none ≡ no_such_part total number) where
          pub refused_page_number : none ≡ true → refused 14 ≡ judging_page identifier p number size
          refused_page_number v = rw (eq-eqb size 88 lent, ← e, not-false inside t, ← f, not-false w u, le-ltb 1230 (length p) l, ← h, ← i, v)

          pub judged_pages : none ≡ false → gives total ≡ judging_page identifier p number size
          judged_pages v = rw (eq-eqb size 88 lent, ← e, not-false inside t, ← f, not-false w u, le-ltb 1230 (length p) l, ← h, ← i, v)

-- ---- what a call makes of it
-- The tests of a call, of which the second has a number of its own: what it comes to where the part is x.
record Tests : Type 0 where
  second : ℕ
  lent : Bool
  named : Bool
  formed : Bool
  long : Bool
  numbered : Bool

abbrev tested : {A : Type 0} → Tests → A → Outcome A
tested t x =
    refuse 1 when not t.lent otherwise
    refuse t.second when not t.named otherwise
    refuse 9 when not t.formed otherwise
    refuse 12 when t.long otherwise
    refuse 14 when t.numbered otherwise
    gives x

-- what a call that is not refused has passed
record Passed (t : Tests) : Type 0 where
  lent : t.lent ≡ true
  named : t.named ≡ true
  formed : t.formed ≡ true
  long : t.long ≡ false
  numbered : t.numbered ≡ false

-- the same tests refuse with the number of parts in hand and with the piece, and let both pass
data Judged (t : Tests) (total : ℕ) (y : Piece) : Type 0 where
  refuses : (n : ℕ) → tested t total ≡ refused n → tested t y ≡ refused n → Judged t total y
  passes : Passed t → tested t total ≡ gives total → tested t y ≡ gives y → Judged t total y

judged : (n : ℕ) (a b c d e : Bool) (total : ℕ) (y : Piece)
    → Judged (record { second = n; lent = a; named = b; formed = c; long = d; numbered = e }) total y
judged n false b c d e total y = refuses 1 refl refl
judged n true false c d e total y = refuses n refl refl
judged n true true false d e total y = refuses 9 refl refl
judged n true true true true e total y = refuses 12 refl refl
judged n true true true false true total y = refuses 14 refl refl
judged n true true true false false total y =
    passes (record { lent = refl; named = refl; formed = refl; long = refl; numbered = refl }) refl refl

module _ (t : Tests) (x : Result ℕ Refusal) (y : Piece) (h : told_due x ≡ tested t y.total) where
  case : Judged t y.total y
  case = judged t.second t.lent t.named t.formed t.long t.numbered y.total y

  passed : (total : ℕ) → x ≡ Ok total → Passed t × (total ≡ y.total)
  passed total f = go case
    where
      go : Judged t y.total y → Passed t × (total ≡ y.total)
      go (refuses n a b) = let z : ◌≡◌ {A = ℕ} 0 1 = cc in absurd (omega arith)
      go (passes p a b) = (p, cc)

  call_refused : (r : Refusal) (buffer : List ℕ) → x ≡ Err r → written (refused (refusal_number r)) buffer ≡ writes_part (tested t y) buffer
  call_refused r buffer f = go case
    where
      go : Judged t y.total y → written (refused (refusal_number r)) buffer ≡ writes_part (tested t y) buffer
      go (refuses n a b) = let e : refusal_number r ≡ n = cc in rw (b, e)
      go (passes p a b) = let z : ◌≡◌ {A = ℕ} 0 1 = cc in absurd (omega arith)

  call_written : (total size : ℕ) (buffer after : List ℕ) → x ≡ Ok total → Standing y.octets size buffer after
      → written (gives (record { total = total; size = size })) after ≡ writes_part (tested t y) buffer
  call_written total size buffer after f s = go case
    where
      go : Judged t y.total y → written (gives (record { total = total; size = size })) after ≡ writes_part (tested t y) buffer
      go (refuses n a b) = let z : ◌≡◌ {A = ℕ} 0 1 = cc in absurd (omega arith)
      go (passes p a b) = rw (b, (passed total f).1, s.long, s.stands)

-- a number that is not refused is that of a part
number_within : (total number : ℕ) → no_such_part total number ≡ false → (1 ≤ number) × (number ≤ total)
number_within total number e =
    let (a, b) = neither (eqb number 0) (ltb total number) e in
    let n = eqb-false number 0 a in (omega arith, ltb-false total number b)

-- ---- user data
module _ (k : Kind) (width reference : ℕ) (p : List ℕ) (number : ℕ) where
  abbrev message_tests : ℕ → Tests
  message_tests size = record {
    second = 13;
    lent = eqb size most_user_data;
    named = reference_fits width reference;
    formed = well_formed k p;
    long = ltb (most_split width) (length p);
    numbered = no_such_part (parts width (length p)) number;
  }

  abbrev message_piece : Piece
  message_piece = record { total = parts width (length p); octets = user_data k width reference p number }

  pub message_ready : (x : Result ℕ Refusal) (total size : ℕ) → told_due x ≡ judging k width reference p number size → x ≡ Ok total
      → Writable width reference p total number size
  message_ready x total size e f =
      let (a, s) = passed (message_tests size) x message_piece e total f in
      let (low, high) = number_within (parts width (length p)) number a.numbered in
      let most = most_parts_lem width (length p) (ltb-false (most_split width) (length p) a.long) in
      record {
        numbered = record { lent = eqb-true size most_user_data a.lent; fits = a.named; most = omega arith; first = low; last = omega arith };
        some = omega (arith, (formed_facts k p a.formed).inside);
        all = s;
      }

  module _ (x : Result ℕ Refusal) (buffer : List ℕ) (e : told_due x ≡ judging k width reference p number (length buffer)) where
    pub message_refused : (r : Refusal) → x ≡ Err r → written (refused (refusal_number r)) buffer ≡ write_message k width reference p number buffer
    unfolding write_message writing
    message_refused r f = call_refused (message_tests (length buffer)) x message_piece e r buffer f

    pub message_written : (total size : ℕ) (after : List ℕ) → x ≡ Ok total → Standing (user_data k width reference p number) size buffer after
        → written (gives (record { total = total; size = size })) after ≡ write_message k width reference p number buffer
    unfolding write_message writing
    message_written total size after f s = call_written (message_tests (length buffer)) x message_piece e total size buffer after f s

-- ---- pages
module _ (identifier : ℕ) (p : List ℕ) (number : ℕ) where
  abbrev page_tests : ℕ → Tests
  page_tests size = record {
    second = 5;
    lent = eqb size page_octets;
    named = identifier_in_range identifier;
    formed = well_formed Command p;
    long = ltb most_pages (length p);
    numbered = no_such_part (pages (length p)) number;
  }

  abbrev page_piece : List ℕ → Piece
  page_piece o = record { total = pages (length p); octets = o }

  pub page_ready : (x : Result ℕ Refusal) (total size : ℕ) → told_due x ≡ judging_page identifier p number size → x ≡ Ok total
      → PageReady p total number size
  page_ready x total size e f =
      let (a, s) = passed (page_tests size) x (page_piece []) e total f in
      let (low, high) = number_within (pages (length p)) number a.numbered in
      let most = most_pages_lem (length p) (ltb-false most_pages (length p) a.long) in
      record { lent = eqb-true size page_octets a.lent; all = s; most = omega arith; first = low; last = omega arith }

  module _ (serial dcs : ℕ) (x : Result ℕ Refusal) (buffer : List ℕ) (e : told_due x ≡ judging_page identifier p number (length buffer)) where
    pub page_refused : (r : Refusal) → x ≡ Err r → written (refused (refusal_number r)) buffer ≡ write_page serial identifier dcs p number buffer
    unfolding write_page writing_page
    page_refused r f = call_refused (page_tests (length buffer)) x (page_piece (page_written serial identifier dcs p number)) e r buffer f

    pub page_written_lem : (total size : ℕ) (after : List ℕ) → x ≡ Ok total → Standing (page_written serial identifier dcs p number) size buffer after
        → written (gives (record { total = total; size = size })) after ≡ write_page serial identifier dcs p number buffer
    unfolding write_page writing_page
    page_written_lem total size after f s =
        call_written (page_tests (length buffer)) x (page_piece (page_written serial identifier dcs p number)) e total size buffer after f s
