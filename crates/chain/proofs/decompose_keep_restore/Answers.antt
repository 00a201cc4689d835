-- `chain::decompose_keep_restore` meets its contract: its checks, then the three calls, none of which is refused. Assumes nothing.
use Rattle.refusals.proofs.After.{passed_by}
use Rattle.chain.proofs.Links.{refused, chained}
use Rattle.chain.proofs.decompose_keep_restore.Goals as goal

pub returns : goal.returns
returns c =
    chained _ _ _ _ _ _ _ _ _ _ _ _ (passed_by c.in_ok-chain_checks.was c.chain_checks.ensures)
    c.decompose_listed.ensures c.keep-kept.ensures c.restore.ensures
