-- `table::read_by`: what the reader passed on is what stands behind the length field and the version.
use Rattle.std.proofs.Common.{◌≡◌}
use Rattle.code.specs.Bytes.{byte_at, past, word_at}
use Rattle.table.proofs.Answered.{read_through}
use Rattle.table.proofs.read_by.Goals as goal

pub returns : goal.returns
returns c =
    let s = c.args.s.now in
    let field : c.number-field.result ≡ word_at s 0 = cc in
    let number : c.byte-number.result ≡ byte_at s (past 0 4) = cc in
    let src : c.moved.result.src.now ≡ s = cc in
    let at : c.moved.result.at ≡ past (past 0 4) 1 = cc in
    read_through c.args.version s _ _ _ _ _ field number (rw (src, at) at c.functions.ensures)
