-- "In demand 3, between two successive calls with the key there are fewer beats than the least limit used" (02 [6]): which limits, in three
-- readings. Each is asked of `since`, the limits of the beats since the last call with the key, the latest first. The first asks most.
use Rattle.std.specs.Prelude.{ℕ, suc, ◌<◌, ◌≡◌, true, cond, List, [], ◌∷◌, length, eqb}
use Rattle.sequences.specs.Lists.{elem}
use Rattle.sequences.specs.Runs.{Event, takes, beats}

-- the limits that a sequence uses. A beat with limit 0 is refused, and is none.
abbrev pub limits_of : List Event → List ℕ
limits_of [] = []
limits_of (takes c ∷ events) = limits_of events
limits_of (beats limit ∷ events) = cond (eqb limit 0) (limits_of events) (limit ∷ limits_of events)

abbrev pub FewerThan : List ℕ → List ℕ → Type 0
FewerThan limits since = (limit : ℕ) → elem limit limits ≡ true → length since < limit

-- the least over all of the sequence
abbrev pub FewerThanLeastOfAll : List Event → List ℕ → Type 0
FewerThanLeastOfAll events since = FewerThan (limits_of events) since

-- the least over the beats between the two calls
abbrev pub FewerThanLeast : List ℕ → Type 0
FewerThanLeast since = FewerThan since since

-- and sharper: the i-th beat since the last call with the key has a limit above i
abbrev pub InTime : List ℕ → Type 0
InTime [] = Unit {0}
InTime (limit ∷ earlier) = (suc (length earlier) < limit) × InTime earlier
