-- What was seen, one element after the other, comes to the summary, if none is of wrong length.
use Rattle.std.specs.Prelude.{ℕ, ◌≡◌, refl, List, [], ◌∷◌, Bool, true, false, cond, ◌||◌}
use Rattle.std.proofs.Common.{sym, ap, ◌∙◌, arith}
use Rattle.std.proofs.Math.Bool.{or-false}
use Rattle.header.specs.declared.Seen.{Seen}
use Rattle.header.specs.Header.{Item, has, is_concatenation, wrong_length, concatenation_in, any_of, last_concatenation, summary}
use Rattle.header.specs.Reading.{nothing_seen, wrong_seen, noted, added, seen_after}
use Rattle.octets.specs.Tests.{neither}

-- ---- what was seen: one element after the other comes to the summary, where none is of wrong length
-- the summary on top of what was seen
abbrev on_top : Seen → List Item → Seen
on_top s es = record {
  wrong = s.wrong || any_of wrong_length es;
  concatenation = last_concatenation s.concatenation es;
  command = s.command || any_of (has 0x70) es;
  response = s.response || any_of (has 0x71) es;
}

or_more : (a b c : Bool) → (a || b) || c ≡ b || (a || c)
or_more true true c = refl
or_more true false c = refl
or_more false b c = refl

cond_true : {A : Type 0} (b : Bool) (x y : A) → b ≡ true → cond b x y ≡ x
cond_true b x y e = rw e

cond_false : {A : Type 0} (b : Bool) (x y : A) → b ≡ false → cond b x y ≡ y
cond_false b x y e = rw e

on_top_more : (s : Seen) (e : Item) (es : List Item) → wrong_length e ≡ false → on_top (added s e) es ≡ on_top s (e ∷ es)
unfolding added
on_top_more s e es w = ap (λ t. on_top t es) (cond_false (wrong_length e) (wrong_seen s) (noted s e) w) ∙ fields
  where
    fields : on_top (noted s e) es ≡ on_top s (e ∷ es)
    fields = λ i. record {
      wrong = s.wrong || (sym w i || any_of wrong_length es);
      concatenation = last_concatenation (cond (is_concatenation e) (concatenation_in e) s.concatenation) es;
      command = or_more (has 0x70 e) s.command (any_of (has 0x70) es) i;
      response = or_more (has 0x71 e) s.response (any_of (has 0x71) es) i;
    }

after_on_top : (s : Seen) (es : List Item) → any_of wrong_length es ≡ false → seen_after s es ≡ on_top s es
after_on_top s [] w = simp or-false
after_on_top s (e ∷ es) w =
    let (here, there) = neither (wrong_length e) (any_of wrong_length es) w in
    after_on_top (added s e) es there ∙ on_top_more s e es here

-- wrong once, wrong for good
still_wrong : (s : Seen) (es : List Item) → s.wrong ≡ true → (seen_after s es).wrong ≡ true
unfolding added
still_wrong s [] w = w
still_wrong s (e ∷ es) w = still_wrong (added s e) es (go (wrong_length e))
  where
    go : (b : Bool) → (cond b (wrong_seen s) (noted s e)).wrong ≡ true
    go true = refl
    go false = w

pub after_wrong : (s : Seen) (es : List Item) → any_of wrong_length es ≡ true → (seen_after s es).wrong ≡ true
unfolding added
after_wrong s [] w = let z : ◌≡◌ {A = ℕ} 0 1 = cc in absurd (omega arith)
after_wrong s (e ∷ es) w = go (wrong_length e) refl w (after_wrong (added s e) es)
  where
    go : (b : Bool) → wrong_length e ≡ b → (b || any_of wrong_length es) ≡ true
        → (any_of wrong_length es ≡ true → (seen_after (added s e) es).wrong ≡ true) → (seen_after (added s e) es).wrong ≡ true
    go true q w more = still_wrong (added s e) es (ap (λ t. t.wrong) (cond_true (wrong_length e) (wrong_seen s) (noted s e) q))
    go false q w more = more w

-- so where none is of wrong length, it is the summary
pub seen_summary : (es : List Item) → any_of wrong_length es ≡ false → seen_after nothing_seen es ≡ summary es
unfolding summary
seen_summary es w = after_on_top nothing_seen es w
