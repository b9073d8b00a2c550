-- What a daemon says once it listens.
use Rattle.std.specs.Prelude.{◌≡◌, ◌⊎◌, ◌++◌, ℕ, List}
use Rattle.std.specs.Net.Addr.{IsLoopbackV4, IsLoopbackV6, MatchIp}
use Rattle.std.specs.Net.Socket.{socket_ip}
use Rattle.std.specs.declared.net.socket_addr.SocketAddr.{SocketAddr}
use Rattle.govisd_words.specs.Texts.{listening_line, warning_line}

-- only this machine reaches an address
abbrev pub IsLoopback : SocketAddr → Type 0
IsLoopback place = MatchIp (socket_ip place) IsLoopbackV4 IsLoopbackV6

-- what is said once an address is listened at; of one that others may reach, that they may
abbrev pub IsListeningText : SocketAddr → List ℕ → Type 0
IsListeningText place text = (IsLoopback place × (text ≡ listening_line place)) ⊎ ((¬ IsLoopback place) × (text ≡ listening_line place ++ warning_line))
