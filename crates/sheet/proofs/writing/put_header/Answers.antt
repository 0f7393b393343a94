use Rattle.sheet.specs.Sheet.{header_text}
use Rattle.sheet.proofs.writing.put_header.Goals as goal

pub put-requires : goal.put-requires
unfolding header_text
put-requires c = c.requires

pub returns : goal.returns
unfolding header_text
returns c = c.put.ensures
