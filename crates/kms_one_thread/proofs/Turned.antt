-- A client's whole turn.
use Rattle.std.proofs.Common.{◌≡◌, ℕ, ◌+◌, [], ◌∷◌, ◌++◌, length, true, false, sym, ◌∙◌, arith, length-append}
use Rattle.std.proofs.lemmas.Bool.{cond-false, cond-true}
use Rattle.std.proofs.lemmas.List.FromFn.{length-map-range_with_len}
use Rattle.kms_model.specs.declared.objects.Kind.TheVariants.{Conn, Crtc, Plane}
use Rattle.kms_model.specs.declared.objects.Topology.{Topology}
use Rattle.kms_model.specs.declared.replies.Step.TheVariants.{Return}
use Rattle.kms_model.specs.Device.Objects.{ids_of, object_id}
use Rattle.kms_model.specs.Machine.Histories.{is_at_end, legal}
use Rattle.kms_model.specs.Order.Turns.{does, most_of_turn, returns, settles, turn}
use Rattle.kms_core.specs.Run.{Run, gains, machine}
use Rattle.kms_one_thread.specs.Rounds.{progress}
use Rattle.kms_one_thread.proofs.Going.{gone}
use Rattle.kms_one_thread.proofs.Histories.{progress_step}

pub few_steps : (t : Topology) → t.crtcs + length t.planes + length t.conns + 4 ≡ most_of_turn t
few_steps t =
    let crtcs = length-map-range_with_len (object_id Crtc) 0 t.crtcs in
    let planes = length-map-range_with_len (object_id Plane) 0 (length t.planes) in
    let conns = length-map-range_with_len (object_id Conn) 0 (length t.conns) in
    let routed = length-append (ids_of t Plane) (ids_of t Conn) in
    let all = length-append (ids_of t Crtc) (ids_of t Plane ++ ids_of t Conn) in
    omega (arith, crtcs, planes, conns, routed, all)

pub goes_back : (old new : Run) (client : ℕ) → legal old.script (machine old) (Return client) ≡ true → new ≡ gains old (Return client ∷ [])
    → progress new ≡ returns old.script client (progress old)
goes_back old new client may after = progress_step old new (Return client) after ∙ sym
    (cond-true (legal old.script (machine old) (Return client)) (does old.script (progress old) (Return client)) (progress old) may)

pub at_end : (old : Run) (client : ℕ) → is_at_end old.script (machine old) client ≡ true → progress old
    ≡ turn old.script (progress old) client
unfolding turn
at_end old client ended = sym (cond-true (is_at_end old.script (machine old) client) (progress old)
    (returns old.script client (settles old.script (gone old client))) ended)

pub turned : (old went settled new : Run) (client : ℕ) → is_at_end old.script (machine old) client ≡ false → went.script ≡ old.script
    → settled.script ≡ went.script → progress went ≡ gone old client
    → progress settled ≡ settles went.script (progress went) → progress new ≡ returns settled.script client (progress settled)
    → progress new ≡ turn old.script (progress old) client
unfolding turn
turned old went settled new client running same same2 one two three =
    let settle : progress settled ≡ settles old.script (gone old client) = two ∙ (λ i. settles (same i) (one i)) in
    three
    ∙ (λ i. returns ((same2 ∙ same) i) client (settle i))
    ∙ sym (cond-false (is_at_end old.script (machine old) client) (progress old)
    (returns old.script client (settles old.script (gone old client))) running)
