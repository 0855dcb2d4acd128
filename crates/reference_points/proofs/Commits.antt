-- The commits are as the definitions give them: antt runs the calls.
use mathlib.Core.Path.{refl}
use Rattle.protocol.specs.Run.{run, commits}
use Rattle.reference_points.specs.Commits.{small, narrow, filled, filled_commits, exchanges, committed, given_up, given_up_commits, spelled, spelled_commits, repeated, repeated_commits}
use Rattle.reference_points.specs.Commits.{Commits, CommitsTheorem}
use Rattle.reference_points.proofs.Rows.{calling}

pub first : Commits small exchanges committed
unfolding calling run commits
first = record { replies = refl; committed = refl }

second : Commits small given_up given_up_commits
unfolding calling run commits
second = record { replies = refl; committed = refl }

third : Commits small spelled spelled_commits
unfolding calling run commits
third = record { replies = refl; committed = refl }

fourth : Commits narrow filled filled_commits
unfolding calling run commits
fourth = record { replies = refl; committed = refl }

fifth : Commits small repeated repeated_commits
unfolding calling run commits
fifth = record { replies = refl; committed = refl }

pub commits_theorem : CommitsTheorem
commits_theorem = (first, second, third, fourth, fifth)
