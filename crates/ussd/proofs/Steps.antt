-- What the proofs of `ussd` cite: one law for each return or call, over plain variables.
use Rattle.std.specs.declared.result.Result.{Result}
use Rattle.std.specs.declared.result.Result.TheVariants.{Ok, Err}
use Rattle.std.specs.List.{starts_with}
use Prim.Native.Nat.{ℕ, ◌+◌, ◌≤◌, ◌<◌}
use mathlib.Core.Path.{◌≡◌, refl, sym, ap, ◌∙◌}
use mathlib.Core.Bool.{Bool, true, false, not, ◌&&◌, ◌||◌}
use mathlib.Core.List.{List, [], ◌∷◌}
use native.Mathlib.Omega.{arith}
use lib.ListN.{length, get_or, take, drop}
use lib.Seq.{drop-drop}
use lib.Dec.{eqb, ltb, leb}
use borrow.Author.Rules.{rules}
use borrow.Author.Tests.{not-true, not-false, lt-ltb, le-ltb, lt-leb, le-leb, leb-true, eqb-true, eqb-false, eq-eqb, ne_eqb}
use Rattle.octets.specs.Octets.{same_octets}
use Rattle.octets.specs.Tests.{both, by_test}
use Rattle.types.specs.declared.Kind.TheVariants.{Command}
use Rattle.types.specs.declared.Refusal.{Refusal}
use Rattle.types.specs.Refusals.{Outcome, refused, gives, refuse◌when◌otherwise◌, refusal_number, Lent, lent}
use Rattle.packet.specs.Packets.{fields_behind, ciphered_behind, against_check, Parsed, measured, parsing_behind, shown, secured_of, check_of, opaque_of, data_by, check_by, opaque_by, summed}
use Rattle.packet.specs.Judging.{told_judged, and_then, shown_by_lem}
use Rattle.ussd.specs.Ussd.{length_size, length_value, length_formed, from_cpl, from_chl, um_behind, um_chl, um_start, um_formed, ciphered_um, um_fields, addressed, readable_ussd, read_ussd, shown_ussd_data, shown_ussd_check, shown_ussd_opaque, is_um, ussd_checksum_octets, ussd_checksummed}
use Rattle.ussd.specs.Within.{lengths_right, string_opened}
use Rattle.ussd.specs.Laws.{behind_start, um_within}

-- ---- lengths
module _ (o : List ℕ) (x : ℕ) (e : x ≡ get_or o 0 0) where
  pub size_one : x ≤ 127 → 1 ≡ length_size o
  size_one l = rw (← e, le-leb x 127 l)

  pub size_two : 127 < x → 2 ≡ length_size o
  size_two l = rw (← e, lt-leb x 127 l)

  pub value_one : x ≤ 127 → x ≡ length_value o
  value_one l = rw (← e, le-leb x 127 l)

  pub value_two : (y : ℕ) → 127 < x → y ≡ get_or o 1 0 → y ≡ length_value o
  value_two y l f = rw (← e, lt-leb x 127 l) f

  pub formed_length : (y : ℕ) → y ≡ get_or o 1 0 → ((leb 1 (length o) && leb x 127) || (eqb x 0x81 && leb 128 y)) ≡ length_formed o
  formed_length y f = rw (e, f)

-- ---- parts of a UM
pub past_length : (o q x : List ℕ) (n : ℕ) → q ≡ o → (n ≡ length_size q) × (n ≤ 2) → x ≡ drop n q → x ≡ drop (length_size o) o
past_length o q x n e f g = g ∙ rw (f.0, e)

pub start_told : (o a b : List ℕ) (n m : ℕ) → a ≡ from_cpl o → b ≡ from_chl o → (n ≡ length_size a) × (n ≤ 2) → (m ≡ length_size b) × (m ≤ 2)
    → 1 + n + m ≡ um_start o
start_told o a b n m e f g h = rw (g.0, h.0, e, f)

pub chl_told : (o a : List ℕ) (n : ℕ) → a ≡ from_chl o → n ≡ length_value a → n ≡ um_chl o
chl_told o a n e f = f ∙ rw e

pub ciphered_told : (o a : List ℕ) (r : Bool) → a ≡ um_behind o → r ≡ ciphered_behind a → r ≡ ciphered_um o
ciphered_told o a r e f = f ∙ rw e

pub lengths_told : (a b : List ℕ) (c h n : ℕ) (p q : Bool) → (c ≡ length_value a) × (c ≤ 255) → (h ≡ length_value b) × (h ≤ 255) → (n ≡ length_size b) × (n ≤ 2) → p ≡ length_formed a
    → q ≡ length_formed b → (p && eqb c (length b) && q && leb 13 h && leb (h + n) c) ≡ lengths_right a b
lengths_told a b c h n p q g i l s t = rw (s, t, g.0, i.0, l.0)

pub formed_told : (o a b : List ℕ) (r : Bool) → a ≡ from_cpl o → b ≡ from_chl o → r ≡ lengths_right a b → r ≡ um_formed o
formed_told o a b r e f g = g ∙ rw (e, f)

pub count_told : (a : List ℕ) (n x : ℕ) → x ≡ length_value a → n ≡ x → n ≡ length_value a
count_told a n x e f = f ∙ e

pub um_told : (o : List ℕ) (x : ℕ) (f : Bool) → x ≡ get_or o 0 0 → f ≡ um_formed o → (eqb x 3 && leb (length o) 159 && f) ≡ is_um o
um_told o x f e g = rw (e, g)

-- ---- reading
eqb_turned : (a b : ℕ) → eqb a b ≡ eqb b a
eqb_turned a b = by_test (eqb b a) (λ t. rw t (eq-eqb a b (sym (eqb-true b a t)))) (λ t. rw t (ne_eqb a b (λ e. eqb-false b a t (sym e))))

-- the first two octets are these, told by a prefix
begins : (a b : ℕ) (s : List ℕ) → starts_with eqb s (a ∷ b ∷ []) ≡ same_octets (take 2 s) (a ∷ b ∷ [])
unfolding same_octets
begins a b [] = refl
begins a b (x ∷ []) = rw (eqb_turned a x)
begins a b (x ∷ (y ∷ s)) = rw (eqb_turned a x, eqb_turned b y)

pub addressed_told : (pfi dcs : ℕ) (s : List ℕ) (b : Bool) → b ≡ starts_with eqb s (pfi ∷ 3 ∷ []) → (eqb dcs 0x96 && b) ≡ addressed pfi dcs s
addressed_told pfi dcs s b e = rw (e, begins pfi 3 s)

pub start_in : (s u : List ℕ) (m : ℕ) → u ≡ drop 1 s → (m ≡ um_start u) × (m ≤ 5) → 1 + m ≡ 1 + um_start (drop 1 s)
start_in s u m e f = rw (f.0, e)

-- what is asked first: 2, 5, 9
module _ (pfi dcs : ℕ) (s : List ℕ) (o : Outcome ℕ) where
  pub long_refused : 160 < length s → refused 2 ≡ string_opened pfi dcs s o
  long_refused l = rw (lt-ltb 160 (length s) l)

  module _ (l : length s ≤ 160) (a : Bool) (e : a ≡ addressed pfi dcs s) where
    pub other_refused : not a ≡ true → refused 5 ≡ string_opened pfi dcs s o
    other_refused t = rw (le-ltb 160 (length s) l, ← e, not-true a t)

    module _ (t : not a ≡ false) (u : List ℕ) (f : u ≡ drop 1 s) (w : Bool) (g : w ≡ um_formed u) where
      pub unformed_refused : not w ≡ true → refused 9 ≡ string_opened pfi dcs s o
      unformed_refused i = let h : um_formed (drop 1 s) ≡ w = rw (← f) (sym g) in rw (le-ltb 160 (length s) l, ← e, not-false a t, h, not-true w i)

      opens : not w ≡ false → o ≡ string_opened pfi dcs s o
      opens i = let h : um_formed (drop 1 s) ≡ w = rw (← f) (sym g) in rw (le-ltb 160 (length s) l, ← e, not-false a t, h, not-false w i)

module _ (pfi dcs : ℕ) (s : List ℕ) (l : length s ≤ 160) (a : Bool) (e : a ≡ addressed pfi dcs s) (t : not a ≡ false) (u : List ℕ) (f : u ≡ drop 1 s) (w : Bool)
    (g : w ≡ um_formed u) (i : not w ≡ false) where
  pub header_opened : (n m : ℕ) → n ≡ um_chl u → m ≡ n → gives m ≡ string_opened pfi dcs s (gives (um_chl (drop 1 s)))
  header_opened n m p q =
      let r : m ≡ um_chl (drop 1 s) = q ∙ p ∙ rw f in rw r (opens pfi dcs s (gives (um_chl (drop 1 s))) l a e t u f w g i)

-- what was asked first, and then what follows
module _ (pfi dcs : ℕ) (s : List ℕ) (j : Result ℕ Refusal) (e : told_judged j ≡ string_opened pfi dcs s (gives (um_chl (drop 1 s)))) where
  opened_then : {A : Type 0} (o : Outcome A) → string_opened pfi dcs s o ≡ and_then (string_opened pfi dcs s (gives (um_chl (drop 1 s)))) o
  opened_then o = go (ltb 160 (length s)) (addressed pfi dcs s) (um_formed (drop 1 s))
    where
      go : (l a w : Bool) → (refuse 2 when l otherwise refuse 5 when not a otherwise refuse 9 when not w otherwise o)
          ≡ and_then (refuse 2 when l otherwise refuse 5 when not a otherwise refuse 9 when not w otherwise gives (um_chl (drop 1 s))) o
      go true a w = refl
      go false false w = refl
      go false true false = refl
      go false true true = refl

  module _ (r : Refusal) (t : j ≡ Err r) where
    opened_refused : {A : Type 0} (o : Outcome A) → refused (refusal_number r) ≡ string_opened pfi dcs s o
    opened_refused o = rw (opened_then o, ← e, t)

    pub judge_refused : (o : Outcome ℕ) → refused (refusal_number r) ≡ readable_ussd pfi dcs s o
    judge_refused o = opened_refused (refuse 15 when against_check Command (um_fields (drop 1 s)) otherwise o)

    pub read_refused : refused (refusal_number r) ≡ read_ussd pfi dcs s
    unfolding read_ussd
    read_refused = opened_refused (refuse 15 when against_check Command (um_fields (drop 1 s)) otherwise gives (measured (um_fields (drop 1 s))))

  module _ (h : ℕ) (t : j ≡ Ok h) where
    opened_on : {A : Type 0} (o : Outcome A) → o ≡ string_opened pfi dcs s o
    opened_on o = sym (rw (opened_then o, ← e, t))

    opened_facts : (um_formed (drop 1 s) ≡ true) × (h ≡ um_chl (drop 1 s))
    opened_facts = go (ltb 160 (length s)) (addressed pfi dcs s) (um_formed (drop 1 s)) refl (sym (ap told_judged t) ∙ e)
      where
        go : (l a w : Bool) → um_formed (drop 1 s) ≡ w
            → gives h ≡ (refuse 2 when l otherwise refuse 5 when not a otherwise refuse 9 when not w otherwise gives (um_chl (drop 1 s)))
            → (um_formed (drop 1 s) ≡ true) × (h ≡ um_chl (drop 1 s))
        go true a w f g = let z : ◌≡◌ {A = ℕ} 0 1 = cc in absurd (omega arith)
        go false false w f g = let z : ◌≡◌ {A = ℕ} 0 1 = cc in absurd (omega arith)
        go false true false f g = let z : ◌≡◌ {A = ℕ} 0 1 = cc in absurd (omega arith)
        go false true true f g = (f, cc)

    module _ (u o : List ℕ) (f : u ≡ drop 1 s) (i : o ≡ um_behind u) (c : Bool) (k : c ≡ ciphered_behind o) where
      rest_is : o ≡ um_behind (drop 1 s)
      rest_is = i ∙ rw f

      flag_is : c ≡ ciphered_um (drop 1 s)
      flag_is = k ∙ rw rest_is

      module _ (a : Bool) (b : a ≡ against_check Command (fields_behind Command c h o)) where
        same_test : against_check Command (um_fields (drop 1 s)) ≡ a
        same_test = rw (← rest_is, ← k, ← opened_facts.1) (sym b)

        pub check_refused : (x : Outcome ℕ) → a ≡ true → refused 15 ≡ readable_ussd pfi dcs s x
        check_refused x g = opened_on (refused 15) ∙ rw (same_test, g)

        pub header_readable : a ≡ false → gives h ≡ readable_ussd pfi dcs s (gives (um_chl (drop 1 s)))
        header_readable g = opened_on (gives h) ∙ rw (same_test, g, opened_facts.1)

      pub read_behind : (n : ℕ) → n ≡ um_chl u → (x : Outcome Parsed) → x ≡ parsing_behind Command c n o → x ≡ read_ussd pfi dcs s
      unfolding read_ussd parsing_behind
      read_behind n g x m =
          let v : n ≡ um_chl (drop 1 s) = g ∙ rw f in
          m ∙ rw (v, flag_is, rest_is, um_within (drop 1 s) opened_facts.0)
          (opened_on (refuse 15 when against_check Command (um_fields (drop 1 s)) otherwise gives (measured (um_fields (drop 1 s)))))

-- ---- showing
module _ (pfi dcs : ℕ) (s : List ℕ) (j : Result ℕ Refusal) (e : told_judged j ≡ readable_ussd pfi dcs s (gives (um_chl (drop 1 s)))) where
  judged_then : {A : Type 0} (o : Outcome A) → readable_ussd pfi dcs s o ≡ and_then (told_judged j) o
  judged_then o = go (ltb 160 (length s)) (addressed pfi dcs s) (um_formed (drop 1 s)) (against_check Command (um_fields (drop 1 s))) ∙ rw (← e)
    where
      go : (l a w b : Bool) → (refuse 2 when l otherwise refuse 5 when not a otherwise refuse 9 when not w otherwise refuse 15 when b otherwise o)
          ≡ and_then (refuse 2 when l otherwise refuse 5 when not a otherwise refuse 9 when not w otherwise refuse 15 when b otherwise gives (um_chl (drop 1 s))) o
      go true a w b = refl
      go false false w b = refl
      go false true false b = refl
      go false true true true = refl
      go false true true false = refl

  is : (n : ℕ) → told_judged j ≡ gives n → n ≡ um_chl (drop 1 s)
  is n t = go (ltb 160 (length s)) (addressed pfi dcs s) (um_formed (drop 1 s)) (against_check Command (um_fields (drop 1 s))) (sym t ∙ e)
    where
      go : (l a w b : Bool)
          → gives n ≡ (refuse 2 when l otherwise refuse 5 when not a otherwise refuse 9 when not w otherwise refuse 15 when b otherwise gives (um_chl (drop 1 s)))
          → n ≡ um_chl (drop 1 s)
      go true a w b g = let z : ◌≡◌ {A = ℕ} 0 1 = cc in absurd (omega arith)
      go false false w b g = let z : ◌≡◌ {A = ℕ} 0 1 = cc in absurd (omega arith)
      go false true false b g = let z : ◌≡◌ {A = ℕ} 0 1 = cc in absurd (omega arith)
      go false true true true g = let z : ◌≡◌ {A = ℕ} 0 1 = cc in absurd (omega arith)
      go false true true false g = cc

  shows : (f : ℕ → List ℕ) (x : List ℕ) → x ≡ shown (and_then (told_judged j) (gives (f (um_chl (drop 1 s))))) → x ≡ shown (readable_ussd pfi dcs s (gives (f (um_chl (drop 1 s)))))
  shows f x g = g ∙ ap shown (sym (judged_then (gives (f (um_chl (drop 1 s))))))

  module _ (u : List ℕ) (f : u ≡ drop 1 s) (c : Bool) (k : c ≡ ciphered_um u) (n : ℕ) (m : n ≡ 1 + um_start (drop 1 s)) (x : List ℕ) where
    rest : drop n s ≡ um_behind (drop 1 s)
    rest = ap (λ (y : ℕ). drop y s) m ∙ sym (drop-drop (um_start (drop 1 s)) 1 s) ∙ behind_start (drop 1 s)

    flag : c ≡ ciphered_um (drop 1 s)
    flag = k ∙ rw f

    pub string_data : x ≡ data_by Command c (drop n s) (told_judged j) → x ≡ shown_ussd_data pfi dcs s
    unfolding shown_ussd_data
    string_data g =
        let p : ℕ → List ℕ = λ h. secured_of (fields_behind Command (ciphered_um (drop 1 s)) h (um_behind (drop 1 s))) in
        shows p x (rw (rest, flag) at g ∙ shown_by_lem (told_judged j) (um_chl (drop 1 s)) p is)

    pub string_check : x ≡ check_by Command c (drop n s) (told_judged j) → x ≡ shown_ussd_check pfi dcs s
    unfolding shown_ussd_check
    string_check g =
        let p : ℕ → List ℕ = λ h. check_of (fields_behind Command (ciphered_um (drop 1 s)) h (um_behind (drop 1 s))) in
        shows p x (rw (rest, flag) at g ∙ shown_by_lem (told_judged j) (um_chl (drop 1 s)) p is)

    pub string_opaque : x ≡ opaque_by Command c (drop n s) (told_judged j) → x ≡ shown_ussd_opaque pfi dcs s
    unfolding shown_ussd_opaque
    string_opaque g =
        let p : ℕ → List ℕ = λ h. opaque_of (fields_behind Command (ciphered_um (drop 1 s)) h (um_behind (drop 1 s))) in
        shows p x (rw (rest, flag) at g ∙ shown_by_lem (told_judged j) (um_chl (drop 1 s)) p is)

-- ---- checksum octets
module _ (u d : List ℕ) where
  pub sum_buffer : (length d ≡ 2145 → ⊥) → lent (refused 1) d ≡ ussd_checksummed u d
  unfolding ussd_checksummed
  sum_buffer n = rw (ne_eqb (length d) 2145 n)

  module _ (l : length d ≡ 2145) (w : Bool) (e : w ≡ is_um u) where
    pub sum_unformed : not w ≡ true → lent (refused 9) d ≡ ussd_checksummed u d
    unfolding ussd_checksummed ussd_checksum_octets
    sum_unformed t = rw (eq-eqb (length d) 2145 l, ← e, not-true w t)

    pub sum_collected : not w ≡ false → (x h n : ℕ) → x ≡ um_chl u → h ≡ x → (c : Bool) → c ≡ ciphered_um u → (n ≡ um_start u) × (n ≤ 5)
        → (r : Lent) → r ≡ summed Command c n h u d → r ≡ ussd_checksummed u d
    unfolding summed ussd_checksummed ussd_checksum_octets
    sum_collected t x h n p q c k m r g =
        let v : is_um u ≡ true = sym e ∙ not-false w t in
        let (a, f) = both (eqb (get_or u 0 0) 3 && leb (length u) 159) (um_formed u) v in
        let few : length u ≤ 159 = leb-true (length u) 159 (both (eqb (get_or u 0 0) 3) (leb (length u) 159) a).1 in
        let z : h ≡ um_chl u = q ∙ p in
        let s : ltb 2142 (length u) ≡ false = le-ltb 2142 (length u) (omega arith) in
        g ∙ rw (z, k, m.0, behind_start u, um_within u f, s, v)

pub ruleset steps = (
  rules,
  size_one,
  size_two,
  value_one,
  value_two,
  formed_length,
  past_length,
  start_told,
  chl_told,
  ciphered_told,
  lengths_told,
  formed_told,
  count_told,
  um_told,
  start_in,
  long_refused,
  other_refused,
  unformed_refused,
  header_opened,
  judge_refused,
  read_refused,
  check_refused,
  header_readable,
  read_behind,
  string_data,
  string_check,
  string_opaque,
  sum_buffer,
  sum_unformed,
  sum_collected,
)
