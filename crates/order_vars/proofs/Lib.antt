mod Adding
mod Choosing
mod Creating
mod EventLasts
mod EventNodes
pub mod EventWords
mod Growth
mod Implying
mod Into
mod Lasting
mod LinkMaking
mod Linking
mod Pushing
mod Tying
