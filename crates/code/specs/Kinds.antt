-- The kinds of transfers by their numbers.
use Rattle.std.specs.Prelude.{ℕ}
use Rattle.code.specs.declared.Kind.{Kind}
use Rattle.code.specs.declared.Kind.TheVariants.{Goto, If, Call, Return, Spork, Spoin}

abbrev pub number_of : Kind → ℕ
number_of Goto = 0
number_of If = 1
number_of Call = 2
number_of Return = 3
number_of Spork = 4
number_of Spoin = 5
