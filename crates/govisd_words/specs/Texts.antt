-- What the program writes of itself.
use Rattle.std.specs.Prelude.{ℕ, List, [], ◌++◌, Option, Some, None, codes, if◌then◌else◌}
use Rattle.std.specs.Str.{bytes_eq}
use Rattle.std.specs.Net.Text.{socket_text}
use Rattle.std.specs.declared.io.ErrorKind.{ErrorKind}
use Rattle.std.specs.declared.io.ErrorKind.TheVariants.{BrokenPipe}
use Rattle.std.specs.declared.net.socket_addr.SocketAddr.{SocketAddr}
use Rattle.go_wire_core.specs.declared.serving.ServeEnd.{ServeEnd}
use Rattle.go_wire_core.specs.declared.serving.ServeEnd.TheVariants as served
use Rattle.govisd_resolve.specs.declared.run.ResolveEnd.{ResolveEnd}
use Rattle.govisd_resolve.specs.declared.run.ResolveEnd.TheVariants.{Clean, Faults, ReadFault, WriteFault, Memory}
use Rattle.govisd_words.specs.declared.words.ValueOption.{ValueOption}
use Rattle.govisd_words.specs.declared.words.ValueOption.TheVariants.{Workers, Connections, Idle, Stall, Steps, Form, Colors}

-- what the program takes, and its exit statuses
abbrev pub program_help_text : List ℕ
program_help_text = codes "Checks and runs Go packages, and says what each name in them denotes\n\nUsage: govisd <COMMAND>\n\nCommands:\n  check    Checks the Go packages of a folder, and tells what is wrong and where\n  run      Compiles the Go packages of a folder, and runs one\n  explain  Says what a rule means, with an example that breaks it\n  resolve  Says what each name in a Go file on standard input denotes\n  lsp      Serves an editor by the Language Server Protocol\n  script   Serves Go sessions by lines of JSON on standard input and output\n  serve    Serves Go sessions by lines of JSON over TCP\n  help     Writes this text, or that of a command: govisd help check\n\nOptions:\n  -h, --help     Writes this text\n  -V, --version  Writes the version\n\nExamples:\n  govisd check           # the packages of this folder and of those in it\n  govisd explain N1      # what the rule N1 means, which check tells of\n  govisd run primes      # the program in the folder primes\n  govisd resolve < a.go  # each name in the file a.go\n\nExit status: 0 where the source has no fault or a service came to its end,\n1 where it has one or the run failed, 2 where the command line, the folder or a\nname is refused. Those of run: govisd help run\n"

abbrev pub resolve_help_text : List ℕ
resolve_help_text = codes "Reads a Go file from standard input, and writes what each name in it denotes\n\nUsage: govisd resolve\n\nOptions:\n  -h, --help  Writes this text\n\nThe file is taken as the one file of a package that stands alone, so each import\nin it is refused. It is UTF-8, of 1,048,576 bytes at most.\nEach identifier that is used has a line, in order of place: its offset in bytes\nfrom 0, its role, the identifier, and the declaration that it denotes or the\nrule that it breaks. After these lines stand the other faults, as\nfault OFFSET RULE. govisd explain RULE says what a rule means.\n\nExample:\n  govisd resolve < a.go\n\nExit status: 0 where the source has no fault, 1 where it has one or the run\nfailed, 2 where the command line is refused\n"

abbrev pub check_help_text : List ℕ
check_help_text = codes "Checks the Go packages of a folder, and tells what is wrong and where\n\nUsage: govisd check [OPTIONS] [FOLDER]\n\nArguments:\n  [FOLDER]  The folder, with all folders in it. Without it, the one that govisd\n            runs in. FOLDER/... is the same. It may be a Go file: then only the\n            faults of this file are told\n\nOptions:\n  --module <PATH>  The import path of the module. Without it, the one that the\n                   first go.mod in the folder or above it names; where there is\n                   no go.mod, the name of the folder\n  --all            Tells also the faults that follow from others\n  --format <FORM>  text, json, github or sarif. Without it, text\n  --json           The same as --format json\n  --source         Shows the lines of the source, as on a terminal\n  --color <WHEN>   auto, always or never. Without it, auto\n  --workers <N>    How many threads work at once, 1 to 64. Without it, as\n                   many as there are processors, 8 at most\n  -h, --help       Writes this text\n\nEach fault is told as FILE:LINE:COLUMN: RULE and what is wrong. Lines count from\n1, and so do columns, in bytes. govisd explain RULE says more of a rule. A fault\nthat follows from another one is counted, and told with --all. A variable that\nis declared and not used is noted, and counts as no fault.\nWith --format json each fault is an object in a line, those that follow too.\nThe .go files of a folder are a package, but for tests (_test.go) and names that\nbegin with . or _; so named folders, testdata and vendor are passed over. Where\na go.mod lies above the folder, all packages of its module are read, and those\nin the folder are told. A file that cannot be read is named on standard error,\nand its package is not checked (K4). Nothing is written into the folder.\nOnly packages of the module are known: an import of the standard library or of\nanother module is I2. Build constraints are not read.\n\nExamples:\n  govisd check\n  govisd check ./cart\n  govisd check cart/cart.go\n  govisd check shop --module example.com/shop --json\n\nExit status: 0 where there is no fault, 1 where there is one or something was\nleft out, 2 where nothing was checked\n"

abbrev pub explain_help_text : List ℕ
explain_help_text = codes "Says what a rule means, with an example that breaks it and how to mend it\n\nUsage: govisd explain [OPTIONS] [RULE]\n\nArguments:\n  [RULE]  The name of a rule, as N1 or n1. Without it all rules are listed, one\n          a line\n\nOptions:\n  --json      Tells each rule as a JSON object in a line, with the members\n              example, meaning, mending and rule\n  -h, --help  Writes this text\n\nExamples:\n  govisd explain N1\n  govisd explain\n  govisd explain --json\n\nExit status: 0, or 2 where no rule has this name\n"

abbrev pub run_help_text : List ℕ
run_help_text = codes "Compiles the Go packages of a folder, and runs one\n\nUsage: govisd run [OPTIONS] [FOLDER]\n\nArguments:\n  [FOLDER]  The folder, as govisd check takes it. Without it, the one that\n            govisd runs in\n\nOptions:\n  --module <PATH>  The import path of the module, as for govisd check\n  --main <PATH>    The import path of the package that is run. Without it, the\n                   one in the folder that is named main\n  --steps <N>      Stops after so many steps, one for each instruction. Without\n                   it, after 1,000,000,000\n  --workers <N>    How many threads work at once, 1 to 64. Without it, as\n                   many as there are processors, 8 at most\n  -h, --help       Writes this text\n\nWhat the program prints goes to standard output, and what it panics with to\nstandard error, as panic: 5. Where it is not run, standard error says why:\nfaults are told as govisd check tells them.\n\nExamples:\n  govisd run primes\n  govisd run shop --main example.com/shop/cmd\n\nExit status: 0 where the program ended, 1 where it was not run, 2 where it\npanicked or the command line is refused, 3 where its steps were spent\n"

abbrev pub lsp_help_text : List ℕ
lsp_help_text = codes "Serves an editor by the Language Server Protocol on standard input and output\n\nUsage: govisd lsp [OPTIONS]\n\nOptions:\n  --stdio     Serves on standard input and output, as without it\n  -h, --help  Writes this text\n\nAn editor starts it and speaks with it: nobody types these messages. The editor\nnames a folder, and the Go packages of its module are read from there, or those\nof the modules that a go.work in it or above it uses. The texts that the editor\nhas open count in place of the files. Nothing is written into the folder.\nThe version of the protocol is 3.17. docs/EDITOR.md has the lines for editors.\n\nExit status: 0 where the editor said exit after shutdown, 1 where it ended in\nanother way, 2 where the command line is refused\n"

abbrev pub script_help_text : List ℕ
script_help_text = codes "Serves Go sessions by lines of JSON on standard input and output\n\nUsage: govisd script [OPTIONS]\n\nOptions:\n  --workers <N>  How many packages are compiled at once, 1 to 64. Without it, 1\n  -h, --help     Writes this text\n\nEach line is one request of a session, whose number, 1 to 32, is its member \"s\".\nEach is answered by one line, in order. docs/DAEMON.md has all requests.\n\nExample:\n  printf '{\"cmd\":\"open\",\"module\":\"example.com/a\",\"s\":1}\\n' | govisd script\n\nExit status: 0 where the input ended, 1 where a line was too long, reading or\nwriting failed, or memory or threads ran out, 2 where the command line is\nrefused\n"

abbrev pub serve_help_text : List ℕ
serve_help_text = codes "Serves Go sessions by lines of JSON over TCP\n\nUsage: govisd serve [OPTIONS] --listen <ADDRESS>\n\nOptions:\n  --listen <ADDRESS>  An address and a port, as 127.0.0.1:7000. With port 0 the\n                      system chooses one. A port alone, as :7000, is that of\n                      each address of the machine\n  --workers <N>       How many packages are compiled at once, 1 to 64. Without\n                      it, 1\n  --connections <K>   Takes so many connections and no more, and ends once they\n                      have ended. Without it, there is no end\n  --idle <SECONDS>    Closes a connection that sends nothing for so long while\n                      it waits for no reply. 0 is never. Without it, 3600\n  --stall <SECONDS>   Closes a connection that reads nothing of a reply for so\n                      long. 0 is never. Without it, 60\n  --until-input-ends  Ends once standard input has ended: a connection that\n                      waits for no reply is closed, another after its reply\n  -h, --help          Writes this text\n\nOnce it listens, it says so on standard error, with the address and the port:\ngovisd: listening on 127.0.0.1:7000. Each line of a connection is one request,\nanswered by one line, in order. A connection has one session at a time, which\nends with it. docs/DAEMON.md has all requests. At most 32 connections are served\nat once: another is told {\"err\":\"O4\"} and closed. Whoever reaches the address\nmay open sessions: nobody is asked for a name. Standard error also tells, once\neach, what only a new start or more memory helps against: the first O4, H1 and\nM0 of a build.\n\nExample:\n  govisd serve --listen 127.0.0.1:7000 --workers 4\n\nExit status: 0 after the last connection or the end of its input, 1 where the\naddress cannot be listened on, a connection cannot be accepted, or memory or\nthreads ran out, 2 where the command line or the address is refused\n"

-- what a command takes, by its name
abbrev pub help_of : List ℕ → Option (List ℕ)
help_of name =
    if bytes_eq name (codes "resolve") then Some resolve_help_text
    else (if bytes_eq name (codes "check") then Some check_help_text
    else (if bytes_eq name (codes "explain") then Some explain_help_text
    else (if bytes_eq name (codes "script") then Some script_help_text
    else (if bytes_eq name (codes "serve") then Some serve_help_text
    else (if bytes_eq name (codes "run") then Some run_help_text
    else (if bytes_eq name (codes "lsp") then Some lsp_help_text
    else (if bytes_eq name (codes "help") then Some program_help_text else None)))))))

-- no command has this name
abbrev pub unknown_command_text : List ℕ → List ℕ
unknown_command_text name = codes "govisd: there is no command " ++ name ++ codes "\ngovisd: govisd help lists all commands\n"

abbrev pub version_text : List ℕ
version_text = codes "govisd 0.1.0\n"

-- the last line of what is said of a command line that is refused
abbrev pub refused_text : List ℕ
refused_text = codes "govisd: the command line is refused\n"

-- why no whole report was written
abbrev pub end_text : ResolveEnd → List ℕ
end_text Clean = []
end_text Faults = []
end_text ReadFault = codes "govisd: standard input cannot be read\n"
end_text WriteFault = codes "govisd: standard output cannot be written\n"
end_text Memory = codes "govisd: memory ran out\n"

-- why what was asked for could not be written; nothing is said where nobody reads it any more
abbrev pub unwritten_text : ErrorKind → List ℕ
unwritten_text BrokenPipe = []
unwritten_text _ = codes "govisd: standard output cannot be written\n"

-- what is wrong with the word behind an option, and that the command line is refused
abbrev pub bad_value_text : ValueOption → List ℕ
bad_value_text Workers = codes "govisd: --workers takes a number from 1 to 64\ngovisd: the command line is refused\n"
bad_value_text Connections = codes "govisd: --connections takes a number from 0 to 18446744073709551615\ngovisd: the command line is refused\n"
bad_value_text Idle = codes "govisd: --idle takes a number from 0 to 18446744073709551615\ngovisd: the command line is refused\n"
bad_value_text Stall = codes "govisd: --stall takes a number from 0 to 18446744073709551615\ngovisd: the command line is refused\n"
bad_value_text Steps = codes "govisd: --steps takes a number from 0 to 18446744073709551615\ngovisd: the command line is refused\n"
bad_value_text Form = codes "govisd: --format takes text, json, github or sarif\ngovisd: the command line is refused\n"
bad_value_text Colors = codes "govisd: --color takes auto, always or never\ngovisd: the command line is refused\n"

-- why a script ended before its input did
abbrev pub script_end_text : ServeEnd → List ℕ
script_end_text served.Done = []
script_end_text served.TooLong = codes "govisd: a line has more than 2,097,152 bytes\n"
script_end_text served.ReadFault = codes "govisd: standard input cannot be read\n"
script_end_text served.WriteFault = codes "govisd: standard output cannot be written\n"
script_end_text served.Turns = codes "govisd: standard input came in too many pieces\n"
script_end_text served.Memory = codes "govisd: memory or threads ran out\n"

-- why a daemon ended before its last connection
abbrev pub serve_end_text : ServeEnd → List ℕ
serve_end_text served.Done = []
serve_end_text served.ReadFault = codes "govisd: a connection cannot be accepted\n"
serve_end_text served.Memory = codes "govisd: memory or threads ran out\n"
serve_end_text _ = codes "govisd: serving ended early\n"

-- an address and a port are listened at
abbrev pub listening_line : SocketAddr → List ℕ
listening_line place = codes "govisd: listening on " ++ socket_text place ++ codes "\n"

-- and others than this machine may reach it
abbrev pub warning_line : List ℕ
warning_line = codes "govisd: this is no loopback address: whoever reaches it may open sessions\n"

-- an address cannot be listened on
abbrev pub unbound_front : List ℕ → List ℕ
unbound_front address = codes "govisd: " ++ address ++ codes " cannot be listened on: "

-- and why
abbrev pub unbound_text : List ℕ → List ℕ → List ℕ
unbound_text address why = unbound_front address ++ why ++ codes "\n"
