use Rattle.kms_script.proofs.Lined.{split_after, cut_row_alone}
use Rattle.kms_script.proofs.rows.split_line.Goals as goal

pub returns-in-empty-clause-rows : goal.returns-in-empty-clause-rows
returns-in-empty-clause-rows c =
    cut_row_alone c.args.bytes.now c.split_at_byte.result.1.now c.requires c.split_at_byte.ensures.back c.in-empty.len_below

pub returns-in-len1-up-clause-rows : goal.returns-in-len1-up-clause-rows
returns-in-len1-up-clause-rows c = split_after c.args.bytes.now c.split_at_byte.result.0.now c.split_at_byte.result.1.now
    c.split_at_byte.ensures.front c.split_at_byte.ensures.back c.in-len1-up.len_at_least
