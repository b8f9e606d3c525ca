mod Keyed
mod OneHash
