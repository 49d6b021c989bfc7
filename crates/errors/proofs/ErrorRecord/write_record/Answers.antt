-- `errors::ErrorRecord::write_record` meets its contract: two refusals that write nothing, and the record.
use Rattle.std.proofs.Common.{arith, rules, sym, ◌∙◌}
use Rattle.errors.proofs.Ranges.{valid}
use Rattle.errors.proofs.Written.{invalid, short, whole}
use Rattle.errors.proofs.ErrorRecord.write_record.Goals.{then-not-is_valid-via-then-not-is_valid, then-not-is_valid-via-else-not-is_valid+then-out-length}
use Rattle.errors.proofs.ErrorRecord.write_record.Goals as goal

pub returns-then-not-is_valid : goal.returns-then-not-is_valid
returns-then-not-is_valid c =
    let x = c.args.self.now in
    let o = c.args.out.now in
    elim c.then-not-is_valid.branch [
      | then-not-is_valid-via-then-not-is_valid w ↦ invalid x o (sym c.is_valid.ensures ∙ w.if-not-is_valid.true)
      | then-not-is_valid-via-else-not-is_valid+then-out-length w ↦ short x o (omega arith)
    ]

pub put-requires : goal.put-requires
put-requires c = ((valid c.args.self.now (sym c.is_valid.ensures ∙ c.if-not-is_valid.false)).count, search rules)

pub returns : goal.returns
returns c =
    whole c.args.self.now c.args.out.now record { details = search rules } (sym c.is_valid.ensures ∙ c.if-not-is_valid.false)
    (omega arith) c.put.ensures
