-- `table::grammar::head`: parameters, scope, nesting.
use borrow.Author.Rules.{rules}
use Rattle.model.specs.Read as Read
use Rattle.table.proofs.Laws.{skip-then, skip-else}
use Rattle.table.proofs.Rules.{half-else, kinds-of}
use Rattle.table.proofs.grammar.head.Goals as goal

pub returns-in_err-scope : goal.returns-in_err-scope
unfolding Read.head Read.arguments Read.temporary Read.name
returns-in_err-scope c = skip-else _ _ _ _ _ _ c.in_err-scope.ensures (search rules)

pub returns-in_err-k : goal.returns-in_err-k
unfolding Read.head Read.arguments Read.temporary Read.name
returns-in_err-k c =
    skip-then _ _ _ _ _ _ c.in_ok-scope.ensures (λ _. half-else _ _ _ _ _ _ c.in_err-k.ensures (search rules))

pub returns : goal.returns
unfolding Read.head Read.arguments Read.temporary Read.name
returns c = search (rules, kinds-of, c.in_ok-scope.ensures, c.in_ok-k.ensures) depth 9
