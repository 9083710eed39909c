-- A body within its limits. Assumes nothing.
use Rattle.std.proofs.Common.{◌≤◌, ◌≡◌, true}
use Rattle.std.proofs.lemmas.Bool.{and_parts, leb-true}
use Rattle.std.specs.Prelude.{leb}
use Rattle.run_body.specs.Meaning.{within_of}
use Rattle.run_body.specs.declared.Body.{Body}

pub shots_within : (b : Body) → within_of b ≡ true → b.shots.n ≤ 64
shots_within b h = leb-true b.shots.n 64 (and_parts (leb b.shots.n 64) (leb b.wanted.n 64) h).0

pub wanted_within : (b : Body) → within_of b ≡ true → b.wanted.n ≤ 64
wanted_within b h = leb-true b.wanted.n 64 (and_parts (leb b.shots.n 64) (leb b.wanted.n 64) h).1
