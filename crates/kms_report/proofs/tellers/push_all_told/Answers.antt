use Rattle.std.proofs.Common.{◌≡◌, ◌<◌, ◌∙◌, ap, arith, false, get_or, length, rules}
use Rattle.kms_core.specs.Run.{machine}
use Rattle.kms_report.specs.Images.{things_of}
use Rattle.kms_kept_frames.specs.Strands.{is_strand}
use Rattle.kms_kept_frames.specs.declared.strands.Strand.TheVariants.{First, Second}
use Rattle.kms_report.proofs.StrandLemmas.{one_line_more, other_first, own_first}
use Rattle.kms_report.proofs.tellers.push_all_told.Goals.{in-First+in_ok-first-in-First, in-Second+in_ok-second-in-Second}
use Rattle.kms_report.proofs.tellers.push_all_told.Goals as goal

pub push_told-requires : goal.push_told-requires
push_told-requires c =
    let latch = c.index-latches-place.result in (
      _,
      c.loop-place.invariant.first ∙ own_first (things_of c.args.told.now.core.now) c.args.told.now.crtc First c.args.told.now.latches.now
          c.args.strands.now c.loop-place.place latch First
          (omega (arith, c.loop-place-test.true)) (omega (arith, c.requires.strands, c.loop-place-test.true)) (search rules) latch
          (search rules),
    )

pub push_told-requires-in-Second : goal.push_told-requires-in-Second
push_told-requires-in-Second c =
    let latch = c.index-latches-place.result in (
      _,
      c.loop-place.invariant.second ∙ own_first (things_of c.args.told.now.core.now) c.args.told.now.crtc Second c.args.told.now.latches.now
          c.args.strands.now c.loop-place.place latch First
          (omega (arith, c.loop-place-test.true)) (omega (arith, c.requires.strands, c.loop-place-test.true)) (search rules) latch
          (search rules),
    )

pub loop-place-preserved : goal.loop-place-preserved
loop-place-preserved c =
    let things = things_of c.args.told.now.core.now in
    let crtc = c.args.told.now.crtc in
    let latches = c.args.told.now.latches.now in
    let strands = c.args.strands.now in
    let k = c.loop-place.place in
    let latch = c.index-latches-place.result in
    let is : latch ≡ get_or latches k latch = search rules in
    let within : k < length latches = omega (arith, c.loop-place-test.true) in
    let beside : k < length strands = omega (arith, c.requires.strands, c.loop-place-test.true) in
    let old = c.loop-place.invariant in
    elim c.match-strands-place.branch [
      | in-First+in_ok-first-in-First w ↦
          let own : get_or strands k First ≡ First = search rules in
          record {
            told = ap (λ t. t.items) w.text-is ∙ one_line_more (machine c.args.told.now.core.now) false latches crtc k latch within
                c.args.text.now.items c.loop-place.text.items w.push_told.new.text.items latch is old.told
                w.in_ok-first-in-First.ensures.text;
            first = ap (λ r. r.now) w.first-is ∙ w.in_ok-first-in-First.ensures.others _
                (old.first ∙ own_first things crtc First latches strands k latch First within beside own latch is);
            second = ap (λ r. r.now) w.second-is ∙ old.second ∙ other_first things crtc Second latches strands k latch First within beside
                (ap (is_strand Second) own);
          }
      | in-Second+in_ok-second-in-Second w ↦
          let own : get_or strands k First ≡ Second = search rules in
          record {
            told = ap (λ t. t.items) w.text-is ∙ one_line_more (machine c.args.told.now.core.now) false latches crtc k latch within
                c.args.text.now.items c.loop-place.text.items w.push_told-in-Second.new.text.items latch is old.told
                w.in_ok-second-in-Second.ensures.text;
            first = ap (λ r. r.now) w.first-is ∙ old.first ∙ other_first things crtc First latches strands k latch First within beside
                (ap (is_strand First) own);
            second = ap (λ r. r.now) w.second-is ∙ w.in_ok-second-in-Second.ensures.others _
                (old.second ∙ own_first things crtc Second latches strands k latch First within beside own latch is);
          }
    ]
