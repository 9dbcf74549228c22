-- The texts of a device, of a client and of a script, from those of their parts.
use Rattle.std.proofs.Common.{◌≡◌, ℕ, ◌≤◌, List, [], ◌∷◌, ◌++◌, length, take, map, Result, ap, sym, ◌∙◌, append_assoc, codes}
use Rattle.std.specs.Prelude.{OnOk}
use Rattle.std.specs.Fmt.{decimal}
use Rattle.std.specs.List.{flat_map}
use Rattle.std.proofs.lemmas.List.{take_all}
use Rattle.std.proofs.lemmas.List.Concat.{flat_map-append}
use Rattle.kms_model.specs.declared.copying.NoMemory.{NoMemory}
use Rattle.kms_model.specs.declared.objects.Topology.{Topology}
use Rattle.kms_model.specs.declared.scripts.Command.{Command}
use Rattle.kms_model.specs.declared.scripts.Script.{Script}
use Rattle.kms_model.specs.Report.TextLines.{line}
use Rattle.kms_model.specs.Script.Spelling.{client_lines, command_words, conn_words, device_lines, spelt_plane, spelling, text_of}
use Rattle.kms_words.proofs.Spaced.{added, lines-flat, lines-map}

abbrev planes_text : Topology → List ℕ
planes_text t = flat_map (λ p. line (spelt_plane p)) t.planes

abbrev conns_text : Topology → List ℕ
conns_text t = flat_map (λ mask. line (conn_words mask)) t.conns

abbrev crtcs_text : Topology → List ℕ
crtcs_text t = line (codes "crtcs" ∷ decimal t.crtcs ∷ [])

device_text : (t : Topology) → (crtcs_text t ++ planes_text t) ++ conns_text t ≡ text_of (device_lines t)
device_text t =
    ap (λ (bs : List ℕ). (crtcs_text t ++ planes_text t) ++ bs) (sym (lines-map conn_words t.conns))
    ∙ ap (λ (bs : List ℕ). (crtcs_text t ++ bs) ++ flat_map line (map conn_words t.conns)) (sym (lines-map spelt_plane t.planes))
    ∙ sym (flat_map-append line ((codes "crtcs" ∷ decimal t.crtcs ∷ []) ∷ map spelt_plane t.planes) (map conn_words t.conns))

pub device_added : (r : Result (Unit {0}) NoMemory) (old first second new : List ℕ) (t : Topology) → first ≡ old ++ crtcs_text t
    → second ≡ first ++ planes_text t → OnOk r (new ≡ second ++ conns_text t)
    → OnOk r (new ≡ old ++ text_of (device_lines t))
device_added r old first second new t crtcs planes conns =
    let front : second ≡ old ++ (crtcs_text t ++ planes_text t) = planes ∙ rw crtcs (append_assoc old (crtcs_text t) (planes_text t)) in
    added r old second new (crtcs_text t ++ planes_text t) (conns_text t) _ front conns (device_text t)

-- the line of a client, and those of all its commands
pub client_added : (old first now : List ℕ) (names : List (List ℕ)) (commands : List Command) (i : ℕ) → length commands ≤ i
    → first ≡ old ++ codes "client\n"
    → now ≡ first ++ flat_map (λ c. line (command_words names c)) (take i commands) → now ≡ old ++ text_of (client_lines names commands)
client_added old first now names commands i all front rest =
    rest ∙ ap (λ (cs : List Command). first ++ flat_map (λ c. line (command_words names c)) cs) (take_all i commands all)
    ∙ ap (λ (bs : List ℕ). first ++ bs) (sym (lines-map (command_words names) commands))
    ∙ rw front (append_assoc old (codes "client\n") (flat_map line (map (command_words names) commands)))

abbrev clients_text : Script → List ℕ
clients_text s = flat_map (λ commands. text_of (client_lines s.names commands)) s.clients

abbrev version_words : Script → List (List ℕ)
version_words s = codes "kms" ∷ decimal s.version ∷ []

pub script_text : (s : Script) (first second third : List ℕ) → first ≡ line (version_words s)
    → second ≡ first ++ text_of (device_lines s.topology) → third ≡ second ++ clients_text s → third ≡ spelling s
script_text s first second third version device clients =
    clients ∙ rw (device, version, ← lines-flat (client_lines s.names) s.clients)
    (sym (flat_map-append line (version_words s ∷ device_lines s.topology) (flat_map (client_lines s.names) s.clients)))
