-- What `script` and `serve` do.
use Rattle.std.specs.Prelude.{◌≡◌, ◌⊎◌, ◌++◌, ℕ, List, Option, Some, None, IfSome}
use Rattle.std.specs.declared.net.socket_addr.SocketAddr.{SocketAddr}
use Rattle.go_wire_core.specs.declared.serving.ServeEnd.{ServeEnd}
use Rattle.govisd_service.specs.Ends.{IsScript}
use Rattle.govisd.specs.declared.program.Ran.{Ran}
use Rattle.govisd.specs.Says.{RunsOut, SaysText}
use Rattle.govisd_words.specs.declared.addresses.Place.{Place}
use Rattle.govisd_words.specs.Addresses.{bad_address_text, place_in}
use Rattle.govisd_words.specs.Listening.{IsListeningText}
use Rattle.govisd_words.specs.Statuses.{serve_status}
use Rattle.govisd_words.specs.Texts.{script_end_text, serve_end_text, unbound_text}

-- a script was served: how it ended, over the bytes that the reader had, what was written, and what was said
pub record Scripts (ran : Ran) (given left out out' err err' : Option (List ℕ)) : Type 0 where
  pub ending : ServeEnd
  pub serves : IfSome given (λ bytes. IsScript ending bytes left out out')
  pub status : ran.status ≡ serve_status ending
  pub says : SaysText ran.is_told (script_end_text ending) err err'

-- it was served at an address: where that is was said before, and why it ended behind that
pub record ServesThere (ran : Ran) (err err' : Option (List ℕ)) : Type 0 where
  pub place : SocketAddr
  pub ending : ServeEnd
  pub status : ran.status ≡ serve_status ending
  pub said : List ℕ
  pub is : IsListeningText place said
  pub says : SaysText ran.is_told (said ++ serve_end_text ending) err err'

-- why an address cannot be listened at was said
pub record SaysUnbound (address : List ℕ) (ran : Ran) (err err' : Option (List ℕ)) : Type 0 where
  pub status : ran.status ≡ 1
  pub why : List ℕ
  pub says : SaysText ran.is_told (unbound_text address why) err err'

-- or memory ran out
abbrev pub RefusesAddress : List ℕ → Ran → Option (List ℕ) → Option (List ℕ) → Type 0
RefusesAddress address ran err err' = SaysUnbound address ran err err' ⊎ RunsOut ran err err'

-- a daemon at an address: it served, it could not listen, or memory ran out before
abbrev pub ServesAt : List ℕ → Ran → Option (List ℕ) → Option (List ℕ) → Type 0
ServesAt address ran err err' = ServesThere ran err err' ⊎ RefusesAddress address ran err err'

-- the word behind `--listen` is no address, and that is said; or memory ran out
abbrev pub RefusesWord : List ℕ → Ran → Option (List ℕ) → Option (List ℕ) → Type 0
RefusesWord address ran err err' = ((ran.status ≡ 2) × SaysText ran.is_told (bad_address_text address) err err') ⊎ RunsOut ran err err'

-- by the place that an address is of
abbrev pub ServesIf : Option Place → List ℕ → Ran → Option (List ℕ) → Option (List ℕ) → Type 0
ServesIf None = RefusesWord
ServesIf (Some place) = ServesAt

-- a daemon that is to listen at an address
abbrev pub Serves : List ℕ → Ran → Option (List ℕ) → Option (List ℕ) → Type 0
Serves address = ServesIf (place_in address) address
