-- What two entries more make the device of one thread show.
use Rattle.std.proofs.Common.{◌≡◌, ℕ, Bool, true, false, cond, List, [], ◌∷◌, ◌++◌, map, append-nil, Some, None, refl, ap, ◌∙◌}
use Rattle.std.proofs.lemmas.List.{map-append}
use Rattle.kms_model.specs.declared.objects.Kind.TheVariants.{Crtc}
use Rattle.kms_model.specs.declared.replies.Reply.TheVariants as reply
use Rattle.kms_model.specs.declared.scripts.Command.TheVariants as command
use Rattle.kms_model.specs.declared.scripts.Request.{Request}
use Rattle.kms_model.specs.declared.scripts.Script.{Script}
use Rattle.kms_model.specs.declared.worlds.World.{World}
use Rattle.kms_model.specs.Device.Execution.{commit, committed, execute}
use Rattle.kms_model.specs.Device.Objects.{object_id}
use Rattle.kms_model.specs.Device.Serial.{Entry, Pictured, command_of, execute_in, pictured, serial, show_from, shown_in}
use Rattle.kms_model.specs.Device.World.{start}
use Rattle.kms_model.specs.Headline.{CommitPicture, shown_pictures}
use Rattle.kms_model.specs.Request.Flags.{is_test}
use Rattle.kms_model.specs.Request.Named.{names}
use Rattle.kms_model.specs.Request.Verdict.{verdict}
use Rattle.kms_laws.proofs.Present.{show_from-append}

two_from : (s : Script) (c : ℕ) (w : World) (e f : Entry)
    → show_from s c w (e ∷ f ∷ [])
    ≡ shown_in s.topology c w e.client (command_of s e) ++ shown_in s.topology c
    (execute_in s.topology w e.client (command_of s e)) f.client (command_of s f)
unfolding show_from
two_from s c w e f =
    ap (λ z. shown_in s.topology c w e.client (command_of s e) ++ z)
    (append-nil (shown_in s.topology c (execute_in s.topology w e.client (command_of s e)) f.client (command_of s f)))

abbrev pub plainly : Pictured → CommitPicture
plainly p = record { commit = p.commit; picture = p.picture }

-- what is shown of a journal with two entries more
pub shown-two : (s : Script) (journal : List Entry) (e f : Entry) (crtc : ℕ) (w : World) → serial s journal ≡ w
    → shown_pictures s (journal ++ e ∷ f ∷ []) crtc
    ≡ shown_pictures s journal crtc
    ++ map plainly (
    shown_in s.topology (object_id Crtc crtc) w e.client (command_of s e)
    ++ shown_in s.topology (object_id Crtc crtc) (execute_in s.topology w e.client (command_of s e)) f.client (command_of s f))
shown-two s journal e f crtc w is =
    let c = object_id Crtc crtc in
    ap (map plainly) (show_from-append s c (start s.topology) journal (e ∷ f ∷ []))
    ∙ map-append plainly (show_from s c (start s.topology) journal) (show_from s c (serial s journal) (e ∷ f ∷ []))
    ∙ ap (λ v. shown_pictures s journal crtc ++ map plainly (show_from s c v (e ∷ f ∷ []))) is
    ∙ ap (λ z. shown_pictures s journal crtc ++ map plainly z) (two_from s c w e f)

-- A request that is accepted and no test

pub executed : (s : Script) (w : World) (client : ℕ) (r : Request) → verdict s.topology w r ≡ None → is_test r.flags ≡ false
    → execute s.topology w client (command.Atomic r) ≡ committed s.topology w client r
unfolding execute
executed s w client r accepted no_test =
    ap (commit s.topology w client r) accepted
    ∙ (λ i. cond (no_test i) (record { world = w; reply = reply.Tested }) (committed s.topology w client r))

-- it shows a picture on each CRTC that it names
pub shown-named : (s : Script) (c : ℕ) (w v : World) (client : ℕ) (r : Request) (named : Bool)
    → execute s.topology w client (command.Atomic r) ≡ record { world = v; reply = reply.Commit w.commits }
    → names w.values v.values r.assigns c ≡ named
    → shown_in s.topology c w client (Some (command.Atomic r)) ≡ cond named (pictured s.topology v c w.commits ∷ []) []
shown-named s c w v client r true is at = rw (is, at) refl
shown-named s c w v client r false is at = rw (is, at) refl
