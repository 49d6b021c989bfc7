-- a right list has at most 64 connections
use Rattle.std.proofs.Common.{rules, sym, ◌∙◌}
use Rattle.settings.proofs.Lists.{count_le}
use Rattle.bounds.proofs.print_list.Goals as goal

pub overflow_cast-i : goal.overflow_cast-i
overflow_cast-i g c =
    let most = count_le c.args.list.now (sym c.is_list.ensures ∙ c.if-not-is_list.false) in
    search rules
