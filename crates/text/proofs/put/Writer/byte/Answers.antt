-- `text::put::Writer::byte` meets its contract.
use Rattle.std.proofs.Common.{refl, arith, length-set}
use Rattle.text.proofs.Pieces.{put_one}
use Rattle.text.proofs.put.Writer.byte.Goals as goal

pub returns : goal.returns
returns c = record {
  bytes = put_one _ _ _ (omega arith);
  end = refl;
  short = omega arith;
  size = length-set _ _ _;
  same = refl;
}
