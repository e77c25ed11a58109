-- Laws that the proofs about the number of parts and the room in them cite: one for each return or need, over plain variables.
use Prim.Native.Nat.{ℕ, ◌+◌, ◌-◌, ◌/◌, ◌≤◌, ◌<◌}
use mathlib.Core.Path.{◌≡◌}
use native.Mathlib.Omega.{arith}
use native.Mathlib.Nat.{div-le_self}
use mir.Syntax.{w64}
use mir.Val.{Fits}
use borrow.Author.Tests.{le-leb, lt-leb}
use Rattle.arrival.specs.Keys.{room}
use Rattle.split.specs.Splitting.{parts}

pub parts_one : (width size : ℕ) → size ≤ 137 → 1 ≡ parts width size
parts_one width size l = rw (le-leb size 137 l)

module _ (size first later : ℕ) where
  pub parts_fit : size ≤ 2142 → later ≤ 134 → Fits w64 (1 + (size - first + later - 1) / later)
  parts_fit l m = omega (arith, div-le_self (size - first + later - 1) later)

  pub parts_more : (width : ℕ) → 137 < size → first ≡ room width 1 → later ≡ room width 2 → 1 + (size - first + later - 1) / later ≡ parts width size
  parts_more width l e f = rw (lt-leb size 137 l, e, f)
