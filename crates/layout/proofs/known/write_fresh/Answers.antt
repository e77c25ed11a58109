-- `write_fresh` meets its contract: a fresh record is written as zeros behind format, kind and number of slots. Assumes nothing.
use mathlib.Core.Path.{◌∙◌, ap}
use Prim.Native.Nat.{ℕ}
use lib.ListN.{replicate}
use borrow.Author.Rules.{rules}
use Rattle.layout.proofs.KnownSteps.{fresh_written}
use Rattle.layout.proofs.known.write_fresh.Goals as goal

pub returns : goal.returns
returns c =
    fresh_written _ _ _ _ (c.fill.ensures.after (λ y k. search rules) ∙ ap (λ (n : ℕ). replicate n 0) c.requires) c.kind_octet.ensures
