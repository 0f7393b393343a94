use Rattle.std.proofs.Common.{◌∙◌}
use Rattle.sheet.proofs.Puts.{put_then, put_is}
use Rattle.sheet.proofs.writing.put_figure.Goals as goal

pub returns : goal.returns
returns g c = put_then _ _ (put_is (c.as_bytes.ensures.value ∙ c.format.ensures.text) c.put-next.ensures) c.put.ensures
