-- The one record, as the closure leaves it.
use Rattle.std.proofs.Common.{◌<◌, refl, length, arith}
use Rattle.std.proofs.lemmas.List.{get_or_default}
use Rattle.gateway.specs.Tables.{blank_record}
use Rattle.gateway.proofs.slice.put.Goals as goal

pub returns-then-at-rs : goal.returns-then-at-rs
returns-then-at-rs g c =
    let l : c.args.at < length c.args.rs.now = c.if-at-rs.true in
    record {
      past = λ h. absurd (omega arith);
      kept = λ h. (
        c.keep.new.arg2,
        record {
          shown = _;
          shows = get_or_default c.args.rs.now c.args.at _ blank_record l;
          left = _;
          met = c.keep.ensures;
          leaves = refl;
        },
        refl,
      );
    }
