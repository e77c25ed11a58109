-- Whatever a record may hold can be brought: for every key, total and number, and any octets of its own that fit, there are octets that are read as that
-- part. A message is written with its concatenation element, in part 1 with the packet identifier too, and the part's own octets behind them; a page with
-- these as its content.
use Prim.Native.Nat.{ℕ, suc, ◌+◌, ◌/◌, ◌%◌, ◌≤◌, ◌<◌}
use mathlib.Core.Path.{◌≡◌, refl, sym, ap, ◌∙◌, subst}
use mathlib.Core.Bool.{Bool, true, false, cond, ◌&&◌}
use mathlib.Core.List.{List, [], ◌∷◌}
use native.Mathlib.Omega.{arith}
use lib.ListN.{length, drop, replicate, length-append, length-replicate}
use lib.Seq.{drop-append_seam}
use lib.Dec.{eqb, leb}
use borrow.Author.Tests.{eqb-true, ne_eqb, leb-true}
use Rattle.octets.specs.Octets.{Octets, number_of}
use Rattle.octets.specs.Laws.{number_of_pair}
use Rattle.octets.specs.Tests.{clash, both}
use Rattle.types.specs.declared.Kind.{Kind}
use Rattle.types.specs.declared.Kind.TheVariants.{Command, Response}
use Rattle.types.specs.declared.Key.{Key}
use Rattle.types.specs.Refusals.{gives}
use Rattle.header.specs.declared.Concatenation.{Concatenation}
use Rattle.arrival.specs.Arrivals.{part}
use Rattle.arrival.specs.Message.{most_parts, message_key, read_message}
use Rattle.arrival.specs.Page.{page_header, page_content, identifier_in_range, page_key}
use Rattle.arrival.specs.Keys.{of_pages, reference_fits, key_formed, total_fits, room, length_fits, message_key_formed, page_key_formed}
use Rattle.arrival.specs.Bounds.{by_width}
use Rattle.arrival.specs.Forms.{headed, borne, part_header, narrow_element, wide_element}
use Rattle.arrival.proofs.FormLaws.{narrow_read, wide_read}
use Rattle.split.specs.Splitting.{parameter}
use Rattle.split.specs.ReadBack.{page_read}
use Rattle.series.specs.PartLaws.{total_bounds}
use Rattle.series.specs.Calls.{Input, message, page, octets_of, read}
use Rattle.sequences.specs.Reachable.{KeyFits, SenderFits}
use Rattle.sequences.proofs.Written.{Small, done, and, small_octets, append_small, zero_small, below_wide, below_narrow}

-- an input that brings part `number` of `total` with that key, and these octets
pub record BringsOwn (k : Kind) (key : Key) (total number : ℕ) (own : List ℕ) : Type 0 where
  pub input : Input
  pub start : ℕ
  pub octets : Octets (octets_of input)
  pub sender : SenderFits input
  pub is : read k input ≡ gives (part key total number start)
  pub brings : drop start (octets_of input) ≡ own

-- or any octets, `size` of them
pub record Brings (k : Kind) (key : Key) (total number size : ℕ) : Type 0 where
  pub input : Input
  pub start : ℕ
  pub octets : Octets (octets_of input)
  pub sender : SenderFits input
  pub is : read k input ≡ gives (part key total number start)
  pub long : length (drop start (octets_of input)) ≡ size

same_parts : (x y : Key) → x.sender ≡ y.sender → x.width ≡ y.width → x.reference ≡ y.reference → x.serial.0 ≡ y.serial.0 → x.identifier.0 ≡ y.identifier.0
    → x ≡ y
same_parts x y a b c d e = λ i. record { sender = a i; width = b i; reference = c i; serial = record { 0 = d i }; identifier = record { 0 = e i } }

borne_small : (k : Kind) (b : Bool) → Small (borne k b)
borne_small k false = done
borne_small Command true = and 0x70 (omega arith) (and 0x00 (omega arith) done)
borne_small Response true = and 0x71 (omega arith) (and 0x00 (omega arith) done)

borne_short : (k : Kind) (b : Bool) → length (borne k b) ≤ 2
borne_short k false = omega arith
borne_short Command true = omega arith
borne_short Response true = omega arith

module _ (k : Kind) (key : Key) (total number : ℕ) (own : List ℕ) (own-small : Small own) (fits : KeyFits key) (two : 2 ≤ total) (most : total ≤ most_parts) (low : 1 ≤ number) (high : number ≤ total) where
  -- ---- a message
  module _ (formed : message_key_formed key ≡ true) (long : length own ≤ room key.width number) where
    -- its concatenation element is h, which says c
    module _ (h : List ℕ) (small : Small h) (short : length h ≤ 6) (c : Concatenation) (width : c.width ≡ key.width) (reference : c.reference ≡ key.reference)
        (reads : read_message k key.sender (headed (part_header k number h) own) ≡ gives (part (message_key key.sender c) total number (length (part_header k number h) + 1))) where
      is_key : message_key key.sender c ≡ key
      is_key =
          let (a, i) = both (reference_fits key.width key.reference && eqb key.serial.0 0) (eqb key.identifier.0 0) formed in
          let (r, s) = both (reference_fits key.width key.reference) (eqb key.serial.0 0) a in
          same_parts (message_key key.sender c) key refl width reference (sym (eqb-true key.serial.0 0 s)) (sym (eqb-true key.identifier.0 0 i))

      with_element : BringsOwn k key total number own
      with_element =
          let front : List ℕ = part_header k number h in
          let whole : length (part_header k number h) ≡ length h + length (borne k (eqb number 1)) = length-append h (borne k (eqb number 1)) in
          let behind : length (part_header k number h) + 1 ≡ suc (length (part_header k number h)) = omega arith in
          record {
            input = message key.sender (headed front own);
            start = length front + 1;
            octets = small_octets (and (length front) (omega (arith, whole, borne_short k (eqb number 1))) (append_small (append_small small (borne_small k (eqb number 1))) own-small));
            sender = fits.sender;
            is = reads ∙ ap (λ (x : Key). gives (part x total number (length (part_header k number h) + 1))) is_key;
            brings = rw behind (drop-append_seam (part_header k number h) own);
          }

    reference_fits_lem : reference_fits key.width key.reference ≡ true
    reference_fits_lem =
        (both (reference_fits key.width key.reference) (eqb key.serial.0 0)
        (both (reference_fits key.width key.reference && eqb key.serial.0 0) (eqb key.identifier.0 0) formed).0).0

    end : Small (total ∷ number ∷ [])
    end = and total (omega arith) (and number (omega arith) done)

    narrow : 8 ≡ key.width → BringsOwn k key total number own
    narrow w =
        let r : key.reference < 256 = below_narrow key.width key.reference reference_fits_lem (rw (← w)) in
        let fit : length own ≤ room 8 number = subst (λ (v : ℕ). length own ≤ room v number) (sym w) long in
        with_element (narrow_element key.reference total number) (and 0x00 (omega arith) (and 3 (omega arith) (and key.reference r end))) (omega arith)
        (record { width = 8; reference = key.reference; total = total; number = number }) w refl
        (narrow_read k key.sender total number own key.reference (record { several = two; most = most; low = low; high = high })
        (omega (arith, fit)))

    wide : 16 ≡ key.width → BringsOwn k key total number own
    wide w =
        let r : key.reference < 65536 = below_wide key.width key.reference reference_fits_lem in
        let fit : length own ≤ room 16 number = subst (λ (v : ℕ). length own ≤ room v number) (sym w) long in
        with_element (wide_element (key.reference / 256) (key.reference % 256) total number)
        (and 0x08 (omega arith) (and 4 (omega arith) (and (key.reference / 256) (omega arith) (and (key.reference % 256) (omega arith) end)))) (omega arith)
        (record { width = 16; reference = number_of (key.reference / 256) (key.reference % 256); total = total; number = number }) w (number_of_pair key.reference)
        (wide_read k key.sender total number own (key.reference / 256) (key.reference % 256) (record { several = two; most = most; low = low; high = high })
        (omega (arith, fit)))

    of_message : BringsOwn k key total number own
    of_message = by_width (λ w. w ≡ key.width → BringsOwn k key total number own) key.width key.reference reference_fits_lem narrow wide refl

  -- ---- a page
  of_page_lem : (c : Kind) → page_key_formed c key ≡ true → key.width ≡ 0 → total ≤ 15 → length own ≡ page_content → BringsOwn c key total number own
  of_page_lem Response formed w less whole = absurd (clash false formed refl)
  of_page_lem Command formed w less whole =
      let (f, range) = both (eqb key.sender 0 && eqb key.reference 0) (identifier_in_range key.identifier.0) formed in
      let (s, r) = both (eqb key.sender 0) (eqb key.reference 0) f in
      let two_octets : key.serial.0 < 65536 = omega (arith, fits.serial) in
      let top = leb-true key.identifier.0 0x109F (both (leb 0x1080 key.identifier.0) (leb key.identifier.0 0x109F) range).1 in
      let is_key : page_key key.serial.0 key.identifier.0 ≡ key =
      same_parts (page_key key.serial.0 key.identifier.0) key (sym (eqb-true key.sender 0 s)) (sym w) (sym (eqb-true key.reference 0 r)) refl refl in
      record {
        input = page (key.serial.0 / 256 ∷ key.serial.0 % 256 ∷ key.identifier.0 / 256 ∷ key.identifier.0 % 256 ∷ 0 ∷ parameter total number ∷ own);
        start = page_header;
        octets = small_octets (and (key.serial.0 / 256) (omega arith) (and (key.serial.0 % 256) (omega arith) (and (key.identifier.0 / 256) (omega arith) (and (key.identifier.0 % 256) (omega arith)
            (and 0 (omega arith) (and (parameter total number) (omega arith) own-small))))));
        sender = tt;
        is = page_read key.serial.0 key.identifier.0 0 total number own whole range less low high
            ∙ rw (ne_eqb total 1 (λ e. omega arith)) (ap (λ (x : Key). gives (part x total number page_header)) is_key);
        brings = refl;
      }

-- ---- either
pub can_bring_own : (k : Kind) (key : Key) (total number : ℕ) (own : List ℕ) → Small own → KeyFits key → key_formed k key ≡ true → total_fits key total ≡ true
    → 1 ≤ number → number ≤ total → length_fits key number (length own) ≡ true → BringsOwn k key total number own
unfolding key_formed length_fits
can_bring_own k key total number own small fits kf tf low high lf =
    let (two, most) = total_bounds key total tf in
    go two most (of_pages key) refl kf (both (leb 2 total) (leb total (cond (of_pages key) 15 most_parts)) tf).1 lf
  where
    go : 2 ≤ total → total ≤ most_parts → (p : Bool) → of_pages key ≡ p → cond p (page_key_formed k key) (message_key_formed key) ≡ true
        → leb total (cond p 15 most_parts) ≡ true → cond p (eqb (length own) page_content) (leb (length own) (room key.width number)) ≡ true → BringsOwn k key total number own
    go two most true w f u l = of_page_lem k key total number own small fits two most low high k f (eqb-true key.width 0 w) (leb-true total 15 u) (eqb-true (length own) page_content l)
    go two most false w f u l = of_message k key total number own small fits two most low high f (leb-true (length own) (room key.width number) l)

-- zeros, where the octets do not matter
pub can_bring : (k : Kind) (key : Key) (total number size : ℕ) → KeyFits key → key_formed k key ≡ true → total_fits key total ≡ true
    → 1 ≤ number → number ≤ total → length_fits key number size ≡ true → Brings k key total number size
can_bring k key total number size fits kf tf low high lf =
    let b = can_bring_own k key total number (replicate size 0) (zero_small size) fits kf tf low high (rw (length-replicate {A = ℕ} size 0) lf) in record {
      input = b.input;
      start = b.start;
      octets = b.octets;
      sender = b.sender;
      is = b.is;
      long = ap (λ (l : List ℕ). length l) b.brings ∙ length-replicate {A = ℕ} size 0;
    }
