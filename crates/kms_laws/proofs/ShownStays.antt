-- What a CRTC showed has the same frame over the things of each later moment.
use Rattle.std.proofs.Common.{◌≡◌, List, [], ◌∷◌, ◌++◌, sym, subst}
use Rattle.std.specs.List.{AllByRecursion}
use Rattle.kms_model.specs.declared.worlds.Thing.{Thing}
use Rattle.kms_model.specs.Device.Serial.{Pictured, serial, serial_from, show, show_from}
use Rattle.kms_model.specs.Device.World.{start}
use Rattle.kms_model.specs.Frames.FrameBytes.{frame_bytes}
use Rattle.kms_model.proofs.Facts.{all-from_recursion}
use Rattle.kms_model.proofs.SoundStart.{start_is_lawful}
use Rattle.kms_laws.specs.Told.{FramesStay}
use Rattle.kms_laws.proofs.Composed.{CanEach, show-can}
use Rattle.kms_laws.proofs.Present.{show_from-append}

frames-front : (things : List Thing) (ps qs : List Pictured) → CanEach things (ps ++ qs)
    → AllByRecursion (λ p. frame_bytes things p.picture ≡ p.frame) ps
frames-front things [] qs can = tt
frames-front things (p ∷ ps) qs can = (sym can.0.frame, frames-front things ps qs can.1)

pub frames-stay : FramesStay
frames-stay s entries later crtc device =
    let things = (serial s (entries ++ later)).things in
    let can : CanEach things (show s (entries ++ later) crtc) =
    show-can s crtc (start s.topology) (entries ++ later) (record { lawful = start_is_lawful s.topology device; framed = tt }) in
    let behind = show_from s crtc (serial_from s (start s.topology) entries) later in
    all-from_recursion (λ p. frame_bytes things p.picture ≡ p.frame) (show s entries crtc)
    (frames-front things (show s entries crtc) behind
    (subst (CanEach things) (show_from-append s crtc (start s.topology) entries later) can))
