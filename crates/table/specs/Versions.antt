-- The code's versions of a table as the model's.
use Rattle.std.specs.Prelude.{List, ℕ}
use Rattle.model.specs.Answers.{Answer}
use Rattle.model.specs.Syntax.{Head, Program}
use Rattle.model.specs.Read.{Parser}
use Rattle.model.specs.Read as Read
use Rattle.table.specs.declared.Version.{Version}
use Rattle.table.specs.declared.Version.TheVariants.{One, Two}

abbrev pub version_of : Version → Read.Version
version_of One = Read.full
version_of Two = Read.brief

-- a block's head in it
abbrev pub head_of : Version → Parser Head
head_of v = (version_of v).head

-- what reading finds
abbrev pub read_of : Version → List ℕ → Answer Program
read_of One s = Read.read s
read_of Two s = Read.read_brief s
