mod OneKind
mod Numbers
mod Places
mod Commands
mod Matching
mod Asked
