use Rattle.std.proofs.Common.{◌≡◌, ℕ, List, [], ◌∷◌, ◌++◌, append_assoc, cond, length, refl, sym, ap, ◌∙◌, arith}
use Rattle.std.specs.List.{flat_map, range_with_len}
use Rattle.kms_model.specs.declared.scripts.Assign.{Assign}
use Rattle.kms_model.specs.Legacy.Translation.{present_of}
use Rattle.kms_model.proofs.Spans.{flat_map-range_more}
use Rattle.kms_legacy.proofs.GoingOff.{off_alone, off_where}
use Rattle.kms_legacy.proofs.setting.push_conns_off.Goals as goal

pub loop-conn-preserved : goal.loop-conn-preserved
loop-conn-preserved c =
    let f : ℕ → List Assign = off_alone (present_of c.args.states.now) c.args.crtc c.args.but in
    let i : ℕ = c.loop-conn.conn in
    let one : cond c.goes_off.result (c.conn_off.result ∷ []) [] ≡ f i = rw (c.goes_off.ensures, c.conn_off.ensures) refl in
    c.in_ok-push_where.ensures
    ∙ (ap (λ (xs : List Assign). c.loop-conn.assigns.items ++ xs) one
    ∙ (ap (λ (xs : List Assign). xs ++ f i) c.loop-conn.invariant
    ∙ (append_assoc c.args.assigns.now.items (flat_map f (range_with_len 0 i)) (f i)
    ∙ ap (λ (xs : List Assign). c.args.assigns.now.items ++ xs) (sym (flat_map-range_more f 0 i i (omega arith))))))

pub returns : goal.returns
returns c =
    let now = present_of c.args.states.now in
    let all : ℕ = length c.args.topology.now.conns in
    let same : c.loop-conn.conn ≡ all = omega (arith, c.loop-conn.auto.conn-end, c.loop-conn-test.false, c.len-conn-end.ensures) in
    c.loop-conn.invariant
    ∙ ap (λ (xs : List Assign). c.args.assigns.now.items ++ xs)
    (ap (λ n. flat_map (off_alone now c.args.crtc c.args.but) (range_with_len 0 n)) same
    ∙ off_where now c.args.crtc c.args.but (range_with_len 0 all))
