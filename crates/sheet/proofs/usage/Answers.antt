-- `sheet::usage` meets its contract: its checks, the counts, then the work. Assumes nothing.
use mathlib.Core.Path.{◌≡◌, sym, ap, ◌∙◌}
use mathlib.Core.List.{List}
use Prim.Native.Nat.{ℕ, ◌+◌, ◌≤◌}
use native.Mathlib.Omega.{arith}
use lib.ListN.{length, get_or}
use Rattle.text.specs.Bytes.{bytes}
use Rattle.text.specs.Write.{stamp}
use Rattle.text.proofs.Stamp.{Put, put_more, put_length}
use Rattle.counts.specs.Counts.{counts_of}
use Rattle.usage_text.specs.Usage.{falling_lines}
use Rattle.usage_list.specs.Written.{lines_text, Few}
use Rattle.usage_list.proofs.Texts.{few}
use Rattle.sheet.specs.Usage.{usage_of}
use Rattle.sheet.proofs.Listed.{usage_is, listable, no_room, listed}
use Rattle.sheet.proofs.usage.Goals as goal

few_counts : (cs counts : List ℕ) → length cs ≤ 21845 → counts ≡ counts_of cs → Few counts
few_counts cs counts h e = λ k l. omega (arith, ap (λ (x : List ℕ). get_or x k 0) e, few cs h k l)

pub counts_of-used-requires : goal.counts_of-used-requires
counts_of-used-requires c = listable c.args.coverings.now c.usage_checks.ensures c.in_ok-usage_checks.was

pub counts_width-length-requires : goal.counts_width-length-requires
counts_width-length-requires c =
    let cs = c.args.coverings.now in
    few_counts cs c.counts_of-used.result.counts (listable cs c.usage_checks.ensures c.in_ok-usage_checks.was).0 c.counts_of-used.ensures

pub returns-then-buffer-length : goal.returns-then-buffer-length
returns-then-buffer-length c =
    let cs = c.args.coverings.now in
    let good = listable cs c.usage_checks.ensures c.in_ok-usage_checks.was in
    let text_is = usage_is cs c.counts_of-used.result.counts good.0 c.counts_of-used.ensures in
    no_room cs c.usage_checks.ensures c.args.buffer.now c.in_ok-usage_checks.was (omega (arith, c.if-buffer-length.true, c.counts_width-length.ensures.0, ap length text_is))

pub put_counts-requires : goal.put_counts-requires
put_counts-requires c =
    let cs = c.args.coverings.now in
    let good = listable cs c.usage_checks.ensures c.in_ok-usage_checks.was in
    let names : Put 0 c.put_bytes-p.result (bytes "cover count\n") c.args.buffer.now c.put_bytes-p.new.out =
    record { room = omega (arith, c.if-buffer-length.false); next = c.put_bytes-p.ensures.value; bytes = c.put_bytes-p.ensures.out_after } in
    (few_counts cs c.counts_of-used.result.counts good.0 c.counts_of-used.ensures, omega (arith, c.if-buffer-length.false, c.counts_width-length.ensures.0, names.next, put_length names))

pub returns : goal.returns
returns c =
    let cs = c.args.coverings.now in
    let counts = c.counts_of-used.result.counts in
    let good = listable cs c.usage_checks.ensures c.in_ok-usage_checks.was in
    let text_is = usage_is cs counts good.0 c.counts_of-used.ensures in
    let width_is : 12 + c.counts_width-length.result ≡ length (usage_of cs) = omega (arith, c.counts_width-length.ensures.0, ap length text_is) in
    let names : Put 0 c.put_bytes-p.result (bytes "cover count\n") c.args.buffer.now c.put_bytes-p.new.out =
    record { room = omega (arith, c.if-buffer-length.false); next = c.put_bytes-p.ensures.value; bytes = c.put_bytes-p.ensures.out_after } in
    let lines : Put c.put_bytes-p.result c.put_counts.result (lines_text (falling_lines counts 21845)) c.put_bytes-p.new.out c.put_counts.new.out =
    record {
      room = omega (arith, c.if-buffer-length.false, c.counts_width-length.ensures.0, names.next, put_length names);
      next = c.put_counts.ensures.value.0;
      bytes = c.put_counts.ensures.out_after;
    } in
    listed cs c.usage_checks.ensures c.args.buffer.now c.in_ok-usage_checks.was _ c.put_counts.new.out (omega (arith, c.if-buffer-length.false, width_is)) width_is
    ((put_more names lines).bytes ∙ ap (λ x. stamp 0 x c.args.buffer.now) (sym text_is))
