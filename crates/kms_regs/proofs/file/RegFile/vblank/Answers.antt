use Rattle.std.proofs.Common.{arith, rules}
use Rattle.kms_regs.proofs.FileLemmas.{blanked_latched, blanked_latched_picture, blanked_still, blanked_still_picture, opened, own_count}
use Rattle.kms_regs.proofs.file.RegFile.vblank.Goals as goal

pub overflow_add-self : goal.overflow_add-self
overflow_add-self c =
    let is = own_count c.self.inside.planes c.self.inside.shadow c.self.inside.live c.self.inside.go c.self.inside.counts
    c.args.crtc c.self.view_is in
    omega (arith, is, c.requires.count)

pub returns-then-not-self-crtc-clause-stands : goal.returns-then-not-self-crtc-clause-stands
returns-then-not-self-crtc-clause-stands c = λ t d stands. blanked_still t d c.self.inside.planes c.self.inside.shadow c.self.inside.live
    c.self.inside.go c.self.inside.counts c.args.crtc (opened t d c.self.view_is stands) (search rules) (search rules)

pub returns-then-not-self-crtc-clause-picture : goal.returns-then-not-self-crtc-clause-picture
returns-then-not-self-crtc-clause-picture c = λ t d stands. blanked_still_picture t d c.self.inside.planes c.self.inside.shadow
    c.self.inside.live c.self.inside.go c.self.inside.counts c.args.crtc (opened t d c.self.view_is stands) (search rules)

pub returns-clause-stands : goal.returns-clause-stands
returns-clause-stands c = λ t d stands.
    blanked_latched t d c.self.inside.go c.self.inside.counts (opened t d c.self.view_is stands) (search rules) (search rules) (search
    rules) c.latch.ensures

pub returns-clause-picture : goal.returns-clause-picture
returns-clause-picture c = λ t d stands.
    blanked_latched_picture t d c.self.inside.planes c.self.inside.shadow c.self.inside.live c.self.inside.go c.self.inside.counts
    c.args.crtc c.latch.new.self c.decoded_picture.result (opened t d c.self.view_is stands) (search rules)
    c.latch.ensures c.decoded_picture.ensures
