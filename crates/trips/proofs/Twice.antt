-- Twice the same element. An element that says nothing new leaves the summary as it is, field by field; behind all others a concatenation element takes
-- the place of theirs in it. Where the own octets begin is handed through by judging, and taking looks at the own octets alone.
use Prim.Native.Nat.{ℕ, ◌+◌, ◌≤◌}
use mathlib.Core.Path.{◌≡◌, refl, sym, ap, ◌∙◌}
use mathlib.Core.Bool.{Bool, true, false, cond, ◌||◌, or-true}
use mathlib.Core.List.{List, [], ◌∷◌, ◌++◌, append-nil}
use mathlib.Core.Option.{some}
use native.Mathlib.Omega.{arith}
use native.Mathlib.Numerals.{add-one}
use lib.ListN.{length, drop, length-append, drop_of_length-le}
use lib.Seq.{drop-append_seam, take_all}
use lib.Dec.{ltb}
use borrow.Author.Tests.{le-leb}
use Rattle.octets.specs.Tests.{clash, neither}
use Rattle.types.specs.declared.Kind.{Kind}
use Rattle.types.specs.declared.Kind.TheVariants.{Command, Response}
use Rattle.types.specs.declared.Key.{Key}
use Rattle.types.specs.Refusals.{Outcome, refused, gives, refuse◌when◌otherwise◌}
use Rattle.header.specs.declared.Concatenation.{Concatenation}
use Rattle.header.specs.declared.Seen.{Seen}
use Rattle.header.specs.Header.{Item, item, elements, elements_after, has, is_concatenation, is_identifier, wrong_length, concatenation_in, no_concatenation, any_of, last_concatenation, summary}
use Rattle.header.specs.Laws.{elements_joined, elements_more, elements_none}
use Rattle.arrival.specs.Arrivals.{Brought, single, part}
use Rattle.arrival.specs.Message.{most_user_data, ignored, alone, judged, read_message, misplaced, most_parts, message_key}
use Rattle.arrival.specs.Forms.{headed, headed_read}
use Rattle.series.specs.Taking.{State, taken, take_message}
use Rattle.trips.specs.Twice.{Concatenating, narrow, wide, NothingNew, before_another, there_already, other_identifier, PutBetween, begins_later, ReadAsWithout, TakenAsWithout, saying, LastReplaces}

-- ---- a concatenation element is read as one item, which is of right length, no packet identifier, and says x
record Reads (c : List ℕ) (x : Concatenation) (e : Item) : Type 0 where
  pub read : elements c ≡ some (e ∷ [])
  pub concatenates : is_concatenation e ≡ true
  pub says : concatenation_in e ≡ x
  pub right : wrong_length e ≡ false
  pub no_command : has 0x70 e ≡ false
  pub no_response : has 0x71 e ≡ false

item_of : {c : List ℕ} {x : Concatenation} → Concatenating c x → Item
item_of (narrow reference total number) = item 0x00 (reference ∷ total ∷ number ∷ [])
item_of (wide high low total number) = item 0x08 (high ∷ low ∷ total ∷ number ∷ [])

reads : {c : List ℕ} {x : Concatenation} (m : Concatenating c x) → Reads c x (item_of m)
unfolding elements_after item_of
reads (narrow reference total number) = record { read = refl; concatenates = refl; says = refl; right = refl; no_command = refl; no_response = refl }
reads (wide high low total number) = record { read = refl; concatenates = refl; says = refl; right = refl; no_command = refl; no_response = refl }

one_element : (i : ℕ) (q : List ℕ) → elements (i ∷ length q ∷ q) ≡ some (item i q ∷ [])
one_element i q =
    let all : length q ≤ length q = omega arith in
    elements_more i (length q) q ∙ rw (le-leb (length q) (length q) all, take_all (length q) q all, drop_of_length-le q all, elements_none)

-- ---- one element among others: whether there is any, and the last concatenation element
any_without : (p : Item → Bool) (e : Item) → p e ≡ false → (es fs : List Item) → any_of p (es ++ (e ∷ fs)) ≡ any_of p (es ++ fs)
any_without p e n [] fs = rw n
any_without p e n (d ∷ es) fs = ap (λ t. p d || t) (any_without p e n es fs)

any_already : (p : Item → Bool) (e : Item) (es fs : List Item) → any_of p (es ++ fs) ≡ true → any_of p (es ++ (e ∷ fs)) ≡ true
any_already p e [] fs t = rw t (or-true (p e))
any_already p e (d ∷ es) fs t = go (p d) t (any_already p e es fs)
  where
    go : (b : Bool) → b || any_of p (es ++ fs) ≡ true → (any_of p (es ++ fs) ≡ true → any_of p (es ++ (e ∷ fs)) ≡ true) → b || any_of p (es ++ (e ∷ fs)) ≡ true
    go true t more = refl
    go false t more = more t

-- where there is one, what was said before it does not count
last_any : (fs : List Item) (c d : Concatenation) → any_of is_concatenation fs ≡ true → last_concatenation c fs ≡ last_concatenation d fs
last_any [] c d t = absurd (clash false t refl)
last_any (e ∷ fs) c d t = go (is_concatenation e) refl (last_any fs)
  where
    go : (b : Bool) → is_concatenation e ≡ b → ((c d : Concatenation) → any_of is_concatenation fs ≡ true → last_concatenation c fs ≡ last_concatenation d fs)
        → last_concatenation (cond b (concatenation_in e) c) fs ≡ last_concatenation (cond b (concatenation_in e) d) fs
    go true q more = refl
    go false q more = more c d (rw q at t)

last_without : (e : Item) (es fs : List Item) → ((c : Concatenation) → last_concatenation (cond (is_concatenation e) (concatenation_in e) c) fs ≡ last_concatenation c fs)
    → (c : Concatenation) → last_concatenation c (es ++ (e ∷ fs)) ≡ last_concatenation c (es ++ fs)
last_without e [] fs same c = same c
last_without e (d ∷ es) fs same c = last_without e es fs same (cond (is_concatenation d) (concatenation_in d) c)

last_is : (e : Item) → is_concatenation e ≡ true → (es : List Item) (c : Concatenation) → last_concatenation c (es ++ (e ∷ [])) ≡ concatenation_in e
last_is e t [] c = rw t
last_is e t (d ∷ es) c = last_is e t es (cond (is_concatenation d) (concatenation_in d) c)

-- ---- what they say together
-- c is read as the item e, which adds nothing to what es and fs say together
record Idle (es fs : List Item) (c : List ℕ) : Type 0 where
  pub e : Item
  pub read : elements c ≡ some (e ∷ [])
  pub adds_nothing : summary (es ++ (e ∷ fs)) ≡ summary (es ++ fs)

module _ (es fs : List Item) where
  same_summary : (e : Item) → wrong_length e ≡ false → any_of (has 0x70) (es ++ (e ∷ fs)) ≡ any_of (has 0x70) (es ++ fs)
      → any_of (has 0x71) (es ++ (e ∷ fs)) ≡ any_of (has 0x71) (es ++ fs)
      → ((c : Concatenation) → last_concatenation (cond (is_concatenation e) (concatenation_in e) c) fs ≡ last_concatenation c fs)
      → summary (es ++ (e ∷ fs)) ≡ summary (es ++ fs)
  unfolding summary
  same_summary e right command response last = rw (any_without wrong_length e right es fs, command, response, last_without e es fs last no_concatenation)

  idle : (c : List ℕ) → NothingNew es fs c → Idle es fs c
  unfolding elements_after summary
  idle c (before_another {x = x} m t) =
      let r : Reads c x (item_of m) = reads m in
      record {
        e = item_of m;
        read = r.read;
        adds_nothing =
            same_summary (item_of m) r.right (any_without (has 0x70) (item_of m) r.no_command es fs) (any_without (has 0x71) (item_of m) r.no_response es fs)
            (λ d. last_any fs (cond (is_concatenation (item_of m)) (concatenation_in (item_of m)) d) d t);
      }
  idle c (there_already Command t) =
      let e : Item = item 0x70 [] in
      record { e = e; read = refl; adds_nothing = same_summary e refl (any_already (has 0x70) e es fs t ∙ sym t) (any_without (has 0x71) e refl es fs) (λ d. refl) }
  idle c (there_already Response t) =
      let e : Item = item 0x71 [] in
      record { e = e; read = refl; adds_nothing = same_summary e refl (any_without (has 0x70) e refl es fs) (any_already (has 0x71) e es fs t ∙ sym t) (λ d. refl) }
  idle c (other_identifier i q n) =
      let (joins, names) = neither (is_concatenation (item i q)) (is_identifier (item i q)) n in
      let (not00, not08) = neither (has 0x00 (item i q)) (has 0x08 (item i q)) joins in
      let (not70, not71) = neither (has 0x70 (item i q)) (has 0x71 (item i q)) names in
      record {
        e = item i q;
        read = one_element i q;
        adds_nothing =
            same_summary (item i q) (rw (not00, not08, not70, not71)) (any_without (has 0x70) (item i q) not70 es fs) (any_without (has 0x71) (item i q) not71 es fs)
            (λ d. rw (not00, not08));
      }

summary_last : (c : List ℕ) (x : Concatenation) (e : Item) → Reads c x e → (es : List Item) → summary (es ++ (e ∷ [])) ≡ saying x (summary es)
unfolding summary
summary_last c x e r es =
    rw (any_without wrong_length e r.right es [], any_without (has 0x70) e r.no_command es [], any_without (has 0x71) e r.no_response es [], append-nil es, last_is e r.concatenates es no_concatenation, r.says)

-- ---- where the own octets begin: what is true of two starts, outcome by outcome, is true of what is judged with them
module _ (P : Outcome Brought → Outcome Brought → Type 0) (a b : ℕ) (refuses : (n : ℕ) → P (refused n) (refused n))
    (lone : P (gives (single a)) (gives (single b)))
    (several : (key : Key) (total number : ℕ) → P (gives (part key total number a)) (gives (part key total number b))) where
  by_tests : (key : Key) (total number : ℕ) (wrong away sole many : Bool)
      → P (refuse 4 when wrong otherwise refuse 5 when away otherwise cond sole (gives (single a)) (refuse 6 when many otherwise gives (part key total number a)))
      (refuse 4 when wrong otherwise refuse 5 when away otherwise cond sole (gives (single b)) (refuse 6 when many otherwise gives (part key total number b)))
  by_tests key total number true away sole many = refuses 4
  by_tests key total number false true sole many = refuses 5
  by_tests key total number false false true many = lone
  by_tests key total number false false false true = refuses 6
  by_tests key total number false false false false = several key total number

  judged_both : (k : Kind) (sender : ℕ) (s : Seen) → P (judged k sender a s) (judged k sender b s)
  unfolding judged
  judged_both k sender s =
      let c : Concatenation = s.concatenation in
      by_tests (message_key sender c) c.total c.number s.wrong (misplaced k s) (alone c) (ltb most_parts c.total)

-- an ignored one is none
judged_ignored : (k : Kind) (sender start : ℕ) (x : Concatenation) (s : Seen) → ignored x ≡ true
    → judged k sender start (saying x s) ≡ judged k sender start (saying no_concatenation s)
unfolding judged
judged_ignored Command sender start x s i = rw i
judged_ignored Response sender start x s i = rw i

-- ---- user data within its bound, read with the element and without it: the same is judged, of two starts
fits : (h o : List ℕ) → length (headed h o) ≤ most_user_data → 1 + length h + length o ≤ most_user_data
fits h o l = omega (arith, length-append h o)

own_behind : (h o : List ℕ) → drop (length h + 1) (headed h o) ≡ o
own_behind h o = rw add-one (drop-append_seam h o)

module _ (f c g o : List ℕ) (w : PutBetween f c g o) where
  longer : length (f ++ (c ++ g)) + 1 ≡ length (f ++ g) + 1 + length c
  longer = omega (arith, length-append f (c ++ g), length-append c g, length-append f g)

  with_it_lem : (k : Kind) (sender : ℕ) → read_message k sender (headed (f ++ (c ++ g)) o) ≡ judged k sender (length (f ++ (c ++ g)) + 1) (summary (w.es ++ w.fs))
  with_it_lem k sender =
      let r : Idle w.es w.fs c = idle w.es w.fs c w.nothing_new in
      headed_read k sender (f ++ (c ++ g)) o (w.es ++ (r.e ∷ w.fs))
      (elements_joined f (c ++ g) w.es (r.e ∷ w.fs) w.front (elements_joined c g (r.e ∷ []) w.fs r.read w.rest))
      (fits (f ++ (c ++ g)) o w.size)
      ∙ ap (judged k sender (length (f ++ (c ++ g)) + 1)) r.adds_nothing

  without_it : (k : Kind) (sender : ℕ) → read_message k sender (headed (f ++ g) o) ≡ judged k sender (length (f ++ g) + 1) (summary (w.es ++ w.fs))
  without_it k sender =
      headed_read k sender (f ++ g) o (w.es ++ w.fs) (elements_joined f g w.es w.fs w.front w.rest)
      (omega (arith, longer, fits (f ++ (c ++ g)) o w.size))

pub read_as_without : ReadAsWithout
read_as_without k sender f c g o w =
    with_it_lem f c g o w k sender
    ∙ ap (λ n. judged k sender n (summary (w.es ++ w.fs))) (longer f c g o w)
    ∙ judged_both (λ x y. x ≡ begins_later (length c) y) (length (f ++ g) + 1 + length c) (length (f ++ g) + 1) (λ n. refl) refl (λ key total number. refl)
    k sender (summary (w.es ++ w.fs))
    ∙ ap (begins_later (length c)) (sym (without_it f c g o w k sender))

-- taking looks at the own octets, wherever they begin
same_taken : (n : ℕ) (s : State) (k : Kind) (sender : ℕ) (h g o : List ℕ) (x : Seen)
    → taken n s false (headed h o) (judged k sender (length h + 1) x) ≡ taken n s false (headed g o) (judged k sender (length g + 1) x)
same_taken n s k sender h g o x =
    judged_both (λ y z. taken n s false (headed h o) y ≡ taken n s false (headed g o) z) (length h + 1) (length g + 1) (λ m. refl)
    (rw (own_behind h o, own_behind g o)) (λ key total number. rw (own_behind h o, own_behind g o)) k sender x

pub taken_as_without : (n : ℕ) → TakenAsWithout n
unfolding take_message
taken_as_without n s sender f c g o w =
    rw (with_it_lem f c g o w s.rec.kind sender, without_it f c g o w s.rec.kind sender, same_taken n s s.rec.kind sender (f ++ (c ++ g)) (f ++ g) o (summary (w.es ++ w.fs)))

pub last_replaces : LastReplaces
last_replaces k sender h c o x es e m l = record { read_by_it = replaced; ignored_is_none = λ i. replaced ∙ judged_ignored k sender (length (h ++ c) + 1) x (summary es) i }
  where
    r : Reads c x (item_of m)
    r = reads m

    replaced : read_message k sender (headed (h ++ c) o) ≡ judged k sender (length (h ++ c) + 1) (saying x (summary es))
    replaced =
        headed_read k sender (h ++ c) o (es ++ (item_of m ∷ [])) (elements_joined h c es (item_of m ∷ []) e r.read) (fits (h ++ c) o l)
        ∙ ap (judged k sender (length (h ++ c) + 1)) (summary_last c x (item_of m) r es)
