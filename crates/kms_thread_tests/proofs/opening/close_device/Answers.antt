use Rattle.std.proofs.Common.{◌≡◌, [], ◌∷◌, rules, arith, refl, sym, subst}
use Rattle.std.specs.Prelude.{Any}
use Rattle.kms_device.specs.Turns.{DevicePass}
use Rattle.kms_thread_tests.proofs.opening.close_device.Goals as goal

pub close-requires-clause-first : goal.close-requires-clause-first
close-requires-clause-first g c =
    let both : c.from_vec.result ≡ c.args.one ∷ c.args.other ∷ [] = search rules in
    subst (Any (λ (p : DevicePass). p.rank ≡ 1)) (sym both) (0, c.args.one, omega arith, refl, c.requires.first)
